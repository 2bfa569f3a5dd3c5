use Rattle.std.proofs.Common.{◌≡◌, ◌+◌, length}
use Rattle.value_text.specs.ReadSteps.{common_len}
use Rattle.value_text.proofs.numbers.common_len.Given as goal

abbrev pub invariant-loop-word_left : goal.invariant-loop-word_left
invariant-loop-word_left l = record {
  same : l.len + common_len l.word_left l.name_left ≡ common_len l.fn.word l.fn.name;
  within : l.len + length l.word_left ≡ length l.fn.word;
}

abbrev pub decreases-loop-word_left : goal.decreases-loop-word_left
decreases-loop-word_left l = length l.word_left
