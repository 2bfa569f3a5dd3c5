use Rattle.std.proofs.Common.{◌≡◌, length}
use Rattle.idl_lex.specs.LexSteps.{keyword_among}
use Rattle.idl_lex.proofs.keyword.keyword_among.Given as goal

-- the keywords that are left have the same one
abbrev pub invariant-loop-keywords : goal.invariant-loop-keywords
invariant-loop-keywords l = keyword_among l.keywords l.word ≡ keyword_among l.initial.keywords l.word

abbrev pub decreases-loop-keywords : goal.decreases-loop-keywords
decreases-loop-keywords l = length l.keywords
