use Rattle.std.proofs.Common.{◌∙◌, sym, ap}
use Rattle.std.specs.Prelude.{slice_set}
use Rattle.std.specs.List.{list_any}
use Rattle.run_engine.specs.Claims.{is_open_claim}
use Rattle.run_engine.proofs.OneLines.{found_open, line_kept, line_settled}
use Rattle.run_engine.proofs.one_line.OneLineClaims.settle.Goals as goal

pub returns-clause-was_open : goal.returns-clause-was_open
returns-clause-was_open c = λ claims is. sym (ap (λ cs. list_any (is_open_claim c.args.id) cs) is.are ∙ found_open c.args.id c.in-Some.index c.args.self.now.calls.items c.in-Some.ensures)

pub returns-clause-settled : goal.returns-clause-settled
returns-clause-settled c = λ claims is.
    line_settled c.args.id c.in-Some.index c.args.fate claims c.args.self.now.calls.items _ c.index_mut.result.now is c.in-Some.ensures c.requires.fits c.index_mut.ensures.value
    (ap (λ call. slice_set c.args.self.now.calls.items c.in-Some.index call) c.settle.ensures)

pub returns-in_default-clause-settled : goal.returns-in_default-clause-settled
returns-in_default-clause-settled c = λ claims is. line_kept c.args.id _ claims c.args.self.now.calls.items is c.in_default.ensures
