use Rattle.std.proofs.Common.{◌≡◌, drop}
use Rattle.value_text.specs.ReadSteps.{word_at}
use Rattle.value_text.proofs.cursor.Cursor.word.Given as goal

abbrev pub invariant-loop-wanted : goal.invariant-loop-wanted
invariant-loop-wanted l = word_at (drop l.wanted-index l.word) l.self ≡ word_at l.word l.initial.self
