-- Where and why tokens are no file (docs/IDL.md, "Faults of the grammar").
use Rattle.std.specs.Prelude.{◌≡◌, ℕ, suc, ◌<◌, List, [], ◌∷◌, length, take, drop}
use Rattle.longest_prefix.specs.Prefixes.{Begins, FaultAt}
use Rattle.idl_parse.specs.Depth.{opened, Shallow}
use Rattle.idl_parse.specs.Grammar.{IsFile}
use Rattle.idl_parse.specs.declared.parse_fault.ParseWhy.{ParseWhy}
use Rattle.idl_parse.specs.declared.parse_fault.ParseWhy.TheVariants.{Unexpected, TooDeep}
use Rattle.idl_lex.specs.declared.token.Token.{Token}
use Rattle.idl_parse.specs.declared.tree.module.Entry.{Entry}

-- the tokens of a file, however deep its types are nested
abbrev pub AnyFile : List Token → Type 0
AnyFile tokens = (depth : ℕ) × (entries : List Entry) × IsFile (suc depth) tokens entries

-- No file goes on with the token at this index, or the tokens end there and are no file: so many tokens are
-- the longest prefix of them that some file begins with. And none of them begins a type inside too many others.
pub record UnexpectedAt (most : ℕ) (tokens : List Token) (index : ℕ) : Type 0 where
  pub longest : FaultAt AnyFile tokens index
  pub shallow : Shallow most 0 (take index tokens)

-- At this index, and not before, a type begins inside as many others as there may be.
pub record TooDeepAt (most : ℕ) (tokens : List Token) (index : ℕ) : Type 0 where
  pub within : index < length tokens
  pub goes_on : Begins AnyFile (take (suc index) tokens)
  pub shallow : Shallow most 0 (take index tokens)
  pub nested : opened 0 (take index tokens) ≡ most

abbrev pub StopsAt : ℕ → List Token → ℕ → ParseWhy → Type 0
StopsAt most tokens index Unexpected = UnexpectedAt most tokens index
StopsAt most tokens index TooDeep = TooDeepAt most tokens index

-- the first byte of the first token, or the end of the text
abbrev pub byte_of : ℕ → List Token → ℕ
byte_of end [] = end
byte_of end (t ∷ ts) = t.start

-- The fault that tokens have, by the byte of a text of this length: they are no file, and this stops them.
pub record IsFault (most end : ℕ) (tokens : List Token) (at : ℕ) (why : ParseWhy) : Type 0 where
  pub no_file : (entries : List Entry) → IsFile most tokens entries → ⊥
  pub index : ℕ
  pub byte : at ≡ byte_of end (drop index tokens)
  pub stops : StopsAt most tokens index why
