-- What `parse` answers (docs/IDL.md, "Grammar" and "Faults of the grammar").
use Rattle.std.specs.Prelude.{◌≡◌, ℕ, Result, Ok, Err, List, length}
use Rattle.idl_parse.specs.Faults.{byte_of, IsFault}
use Rattle.idl_parse.specs.Files.{File}
use Rattle.idl_parse.specs.declared.parse_fault.ParseWhy.{ParseWhy}
use Rattle.idl_parse.specs.declared.parse_fault.ParseFault.{ParseFault}
use Rattle.idl_parse.specs.declared.parse_fault.ParseFault.TheVariants.{Bad, Memory}
use Rattle.idl_parse.specs.declared.parser.halt.Halt.{Halt}
use Rattle.idl_parse.specs.declared.parser.halt.Halt.TheVariants as halts
use Rattle.idl_lex.specs.declared.token.Token.{Token}
use Rattle.idl_parse.specs.declared.tree.module.Entry.{Entry}

-- the fault of a halt where these tokens are left, in a text of this length
abbrev pub IsFaultOf : ℕ → List Token → Halt → ParseFault → Type 0
IsFaultOf end left (halts.Grammar why) fault = fault ≡ Bad (byte_of end left) why
IsFaultOf end left halts.Memory fault = fault ≡ Memory

-- these entries, or no memory
abbrev pub IsRead : Result File ParseFault → List Entry → Type 0
IsRead (Ok ast) entries = ast.entries ≡ entries
IsRead (Err Memory) entries = Unit {0}
IsRead (Err (Bad at why)) entries = ⊥

-- this fault, or no memory
abbrev pub IsRefused : Result File ParseFault → ℕ → ParseWhy → Type 0
IsRefused (Ok ast) at why = ⊥
IsRefused (Err Memory) at why = Unit {0}
IsRefused (Err (Bad offset reason)) at why = (offset ≡ at) × (reason ≡ why)

-- a fault that is told is the one that the tokens have
abbrev pub HasFault : ℕ → List ℕ → List Token → Result File ParseFault → Type 0
HasFault most text tokens (Ok ast) = Unit {0}
HasFault most text tokens (Err Memory) = Unit {0}
HasFault most text tokens (Err (Bad at why)) = IsFault most (length text) tokens at why
