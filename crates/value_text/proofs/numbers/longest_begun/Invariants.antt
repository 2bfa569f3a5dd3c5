use Rattle.std.proofs.Common.{◌≡◌, ◌≤◌, drop, length}
use Rattle.std.specs.Prelude.{max}
use Rattle.value_text.specs.ReadSteps.{longest_begun}
use Rattle.value_text.proofs.numbers.longest_begun.Given as goal

abbrev pub invariant-loop-item : goal.invariant-loop-item
invariant-loop-item l = record {
  same : max l.longest (longest_begun (drop l.item-index l.items) l.word) ≡ longest_begun l.items l.word;
  within : l.longest ≤ length l.word;
}
