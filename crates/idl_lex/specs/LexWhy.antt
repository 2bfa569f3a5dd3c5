-- The reasons of faults by their numbers (docs/IDL.md, "Faults of tokens").
use Rattle.std.specs.Prelude.{ℕ}
use Rattle.idl_lex.specs.declared.lex_fault.LexWhy.{LexWhy}
use Rattle.idl_lex.specs.declared.lex_fault.LexWhy.TheVariants.{BadByte, OpenComment, OpenText, BadNumber}

abbrev pub number_of : LexWhy → ℕ
number_of BadByte = 1
number_of OpenComment = 2
number_of OpenText = 3
number_of BadNumber = 4
