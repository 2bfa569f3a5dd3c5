use Rattle.run_engine.proofs.OneLines.{line_closed}
use Rattle.run_engine.proofs.one_line.OneLineClaims.close.Goals as goal

pub returns : goal.returns
returns c = λ claims is. line_closed claims c.args.self.now.calls.items _ is c.close_all.ensures
