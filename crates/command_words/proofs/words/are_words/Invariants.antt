use Rattle.std.proofs.Common.{◌≡◌, true, take, string_bytes}
use Rattle.std.specs.List.{list_all}
use Rattle.command_words.specs.Words.{is_word}
use Rattle.command_words.proofs.words.are_words.Given as goal

abbrev pub invariant-loop-word : goal.invariant-loop-word
invariant-loop-word l = list_all (λ word. is_word (string_bytes word)) (take l.word-index l.words) ≡ true
