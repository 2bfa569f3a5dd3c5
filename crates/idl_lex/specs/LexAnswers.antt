-- What `lex` answers of a text.
use Rattle.std.specs.Prelude.{◌≡◌, ℕ, List, Result, Ok, Err}
use Rattle.idl_lex.specs.declared.token.Token.{Token}
use Rattle.idl_lex.specs.declared.lex_fault.LexFault.{LexFault}
use Rattle.idl_lex.specs.declared.lex_fault.LexFault.TheVariants.{Bad, Memory}
use Rattle.idl_lex.specs.declared.lex_fault.LexWhy.{LexWhy}
use Rattle.idl_lex.specs.Tokens.{IsLexFault}

-- these tokens, unless memory ran out
abbrev pub GivesTokens : Result (List Token) LexFault → List Token → Type 0
GivesTokens (Ok found) tokens = found ≡ tokens
GivesTokens (Err (Bad offset reason)) tokens = ⊥
GivesTokens (Err Memory) tokens = Unit {0}

-- this fault, unless memory ran out
abbrev pub GivesFault : Result (List Token) LexFault → ℕ → LexWhy → Type 0
GivesFault (Ok found) at why = ⊥
GivesFault (Err (Bad offset reason)) at why = (offset ≡ at) × (reason ≡ why)
GivesFault (Err Memory) at why = Unit {0}

-- the text's fault, or that memory ran out
abbrev pub IsFaultOf : LexFault → List ℕ → Type 0
IsFaultOf (Bad offset reason) text = IsLexFault text offset reason
IsFaultOf Memory text = Unit {0}
