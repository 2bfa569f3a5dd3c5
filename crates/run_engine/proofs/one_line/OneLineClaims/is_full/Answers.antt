use Rattle.std.proofs.Common.{◌∙◌, ap}
use Rattle.std.specs.Prelude.{nat_le}
use Rattle.script_session.specs.Sessions.{WIDTH}
use Rattle.run_engine.proofs.OneLines.{full_is}
use Rattle.run_engine.proofs.one_line.OneLineClaims.is_full.Goals as goal

pub returns : goal.returns
returns c = λ claims is. ap (λ n. nat_le WIDTH n) (c.len.ensures ∙ c.args.self.now.calls.ok.0) ∙ full_is c.args._line claims c.args.self.now.calls.items c.requires.line is.are
