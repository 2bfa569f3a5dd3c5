-- A text as tokens, or with its first fault from the left (docs/IDL.md, "Tokens" and "Faults of tokens").
use Rattle.std.specs.Prelude.{◌≡◌, ◌≢◌, ℕ, ◌-◌, ◌≤◌, true, false, List, [], ◌∷◌, ◌++◌, length, codes, Option, Some, None}
use Rattle.idl_lex.specs.declared.kind.Kind.{Kind}
use Rattle.idl_lex.specs.declared.token.Token.{Token}
use Rattle.idl_lex.specs.declared.lex_fault.LexWhy.{LexWhy}
use Rattle.idl_lex.specs.declared.lex_fault.LexWhy.TheVariants.{BadByte, OpenComment, OpenText, BadNumber}
use Rattle.idl_lex.specs.Forms.{IsForm, is_sound}
use Rattle.idl_lex.specs.Trivia.{IsTrivia, HasNoClose}
use Rattle.idl_lex.specs.Texts.{UnitsSpell, IsCut, IsSpoilt}

-- a token stands at the start of the bytes, as long as a token there can be
pub record IsLongest (kind : Kind) (word bytes rest : List ℕ) : Type 0 where
  pub prefix : bytes ≡ word ++ rest
  pub form : IsForm kind word
  pub longest : (other : Kind) (longer more : List ℕ) → bytes ≡ longer ++ more → IsForm other longer → length longer ≤ length word

-- one lexeme of a text and what stands after it: white space or a comment, or a token
pub data IsLexeme : List ℕ → Option Kind → List ℕ → Type 0 where
  trivia : {bytes rest : List ℕ} → IsTrivia bytes rest → IsLexeme bytes None rest
  token : {kind : Kind} {word bytes rest : List ℕ} → IsLongest kind word bytes rest → is_sound kind word rest ≡ true → IsLexeme bytes (Some kind) rest

-- the token between two rests of a text of this size
abbrev pub token_between : ℕ → Kind → List ℕ → List ℕ → Token
token_between size kind bytes rest = record { kind = kind; start = size - length bytes; end = size - length rest }

-- Bytes at the end of a text of this size are lexemes with these tokens among them, and then the rest.
pub data AreLexemes (size : ℕ) : List ℕ → List Token → List ℕ → Type 0 where
  none : {bytes : List ℕ} → AreLexemes size bytes [] bytes
  then_trivia : {bytes next rest : List ℕ} {tokens : List Token} → IsLexeme bytes None next → AreLexemes size next tokens rest → AreLexemes size bytes tokens rest
  then_token : {kind : Kind} {bytes next rest : List ℕ} {tokens : List Token} → IsLexeme bytes (Some kind) next → AreLexemes size next tokens rest
      → AreLexemes size bytes (token_between size kind bytes next ∷ tokens) rest

-- the text has these tokens
abbrev pub Tokens : List ℕ → List Token → Type 0
Tokens text tokens = AreLexemes (length text) text tokens []

-- no white space or comment stands at the start
abbrev pub HasNoTrivia : List ℕ → Type 0
HasNoTrivia bytes = (rest : List ℕ) → IsTrivia bytes rest → ⊥

-- no token stands at the start
abbrev pub HasNoToken : List ℕ → Type 0
HasNoToken bytes = (kind : Kind) (word rest : List ℕ) → bytes ≡ word ++ rest → IsForm kind word → ⊥

-- the bytes begin otherwise
abbrev pub DoesNotBegin : List ℕ → List ℕ → Type 0
DoesNotBegin prefix bytes = (rest : List ℕ) → bytes ≢ prefix ++ rest

-- what stands at the start is no lexeme for this reason, which is told at the bytes from the second list on
pub data IsFault : List ℕ → List ℕ → LexWhy → Type 0 where
  bad_byte : {bytes : List ℕ} → bytes ≢ [] → HasNoTrivia bytes → HasNoToken bytes → DoesNotBegin (codes "/*") bytes → DoesNotBegin (34 ∷ []) bytes → IsFault bytes bytes BadByte
  bad_escape : {bytes inside spelled from : List ℕ} → bytes ≡ 34 ∷ inside → UnitsSpell spelled inside from → IsSpoilt from → IsFault bytes from BadByte
  open_comment : {bytes inside : List ℕ} → bytes ≡ codes "/*" ++ inside → HasNoClose inside → IsFault bytes bytes OpenComment
  open_text : {bytes inside spelled rest : List ℕ} → bytes ≡ 34 ∷ inside → UnitsSpell spelled inside rest → IsCut rest → IsFault bytes bytes OpenText
  bad_number : {kind : Kind} {word bytes rest : List ℕ} → IsLongest kind word bytes rest → is_sound kind word rest ≡ false → IsFault bytes bytes BadNumber

-- lexemes go up to the first fault, which is told at this byte
pub record IsLexFault (text : List ℕ) (at : ℕ) (why : LexWhy) : Type 0 where
  pub tokens : List Token
  pub rest : List ℕ
  pub from : List ℕ
  pub before : AreLexemes (length text) text tokens rest
  pub fault : IsFault rest from why
  pub offset : at ≡ length text - length from
