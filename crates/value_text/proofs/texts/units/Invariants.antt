use Rattle.std.proofs.Common.{◌≡◌, ◌-◌}
use Rattle.value_text.specs.ReadSteps.{units_at}
use Rattle.value_text.proofs.Loops.{with_prefix}
use Rattle.value_text.proofs.texts.units.Given as goal

abbrev pub invariant-loop : goal.invariant-loop
invariant-loop l = with_prefix l.bytes.items (units_at l.form (l.most - l.counter) l.cursor) ≡ units_at l.form l.most l.fn.cursor
