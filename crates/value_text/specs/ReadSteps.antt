-- For the proofs: how bytes are read from left to right, as the functions of the reader do. Each gives what it reads
-- with the bytes after it, or the bytes that are left where reading stops, and why it does.
use Rattle.std.specs.Prelude.{◌≡◌, ℕ, zero, suc, ◌+◌, ◌*◌, ◌-◌, ◌==◌, nat_le, max, Bool, true, false, ◌&&◌, ◌||◌, if◌then◌else◌, ℤ, Option, Some, None, Result, Ok, Err, List, [], ◌∷◌, length, take, drop, codes}
use Rattle.std.specs.Char.{is_ascii_alphabetic, is_digit, digit_value}
use Rattle.std.specs.List.{prefix_len}
use Rattle.facts.specs.ResultSteps.{◌>>=◌}
use Rattle.idl_lex.specs.Bytes.{begins, is_word_byte}
use Rattle.idl_lex.specs.Forms.{is_in_range}
use Rattle.idl_lex.specs.Meanings.{whole_number}
use Rattle.tars_model.specs.Declarations.{Declared, items_at}
use Rattle.tars_model.specs.Types.{TyLayer}
use Rattle.tars_model.specs.Values.{is_number_of}
use Rattle.tars_model.specs.declared.enum_desc.Item.{Item}
use Rattle.tars_model.specs.declared.ty.Ty.TheOpen as ty
use Rattle.tars_model.specs.declared.value.Value.{Value}
use Rattle.tars_model.specs.declared.value.Value.TheVariants as values
use Rattle.value_text.specs.Spelling.{past_gap, number_named}
use Rattle.value_text.specs.declared.cursor.Form.{Form}
use Rattle.value_text.specs.declared.cursor.Form.TheVariants as forms
use Rattle.value_text.specs.declared.halt.Halt.{Halt}
use Rattle.value_text.specs.declared.halt.Halt.TheVariants as halts
use Rattle.value_text.specs.declared.value_fault.ValueWhy.{ValueWhy}
use Rattle.value_text.specs.declared.value_fault.ValueWhy.TheVariants.{Unexpected, Range}

-- the bytes that are left, and why reading stops before them
pub record Stop : Type 0 where
  pub left : List ℕ
  pub why : ValueWhy

abbrev pub Read : Type 0 → Type 0
Read A = Result (A × List ℕ) Stop

-- the reading that stops in this way where these bytes are left, unless memory ran out
abbrev pub Fails : {A : Type 0} → Halt → List ℕ → Result A Stop → Type 0
Fails halts.Memory left read = Unit {0}
Fails (halts.Bad why) left read = read ≡ Err (record { left = left; why = why })

-- what a function returned, and the bytes that it left, are what reading gives
abbrev pub Reads : {A : Type 0} → Result A Halt → List ℕ → Read A → Type 0
Reads (Ok x) after read = read ≡ Ok (x, after)
Reads (Err e) after read = Fails e after read

-- the same, seen by a view
abbrev pub ReadsAs : {X A : Type 0} → (X → A) → Result X Halt → List ℕ → Read A → Type 0
ReadsAs view (Ok x) after read = read ≡ Ok (view x, after)
ReadsAs view (Err e) after read = Fails e after read

-- the same of a function that returns nothing
abbrev pub Moves : {U : Type 0} → Result U Halt → List ℕ → Result (List ℕ) Stop → Type 0
Moves (Ok u) after read = read ≡ Ok after
Moves (Err e) after read = Fails e after read

abbrev pub unexpected : {B : Type 0} → List ℕ → Result B Stop
unexpected left = Err (record { left = left; why = Unexpected })

-- ---- bytes and words

-- what stands after one byte
unfoldable pub byte_at : ℕ → List ℕ → Result (List ℕ) Stop
byte_at wanted [] = unexpected []
byte_at wanted (b ∷ rest) = if b == wanted then Ok rest else unexpected (b ∷ rest)

-- and after the gap that follows it
unfoldable pub sign_at : ℕ → List ℕ → Result (List ℕ) Stop
sign_at wanted bytes = do
  rest ← byte_at wanted bytes
  Ok (past_gap rest)

-- what stands after a word
unfoldable pub word_at : List ℕ → List ℕ → Result (List ℕ) Stop
word_at [] bytes = Ok bytes
word_at (wanted ∷ word) bytes = byte_at wanted bytes >>= word_at word

-- a byte that may be there was there, or not
abbrev pub Closes : Bool → List ℕ → ℕ → List ℕ → Type 0
Closes true after close before = before ≡ close ∷ after
Closes false after close before = (after ≡ before) × (begins (λ b. b == close) before ≡ false)

-- after an element: whether the closing sign comes, or a comma
unfoldable pub turn_after : ℕ → List ℕ → Read Bool
turn_after close [] = unexpected []
turn_after close (b ∷ rest) =
    if b == close then Ok (true, rest) else (if b == 44 then Ok (false, past_gap rest) else unexpected (b ∷ rest))

abbrev pub turn_at : ℕ → List ℕ → Read Bool
turn_at close bytes = turn_after close (past_gap bytes)

-- ---- truth values

unfoldable pub truth_at : List ℕ → Read Value
truth_at bytes =
    if begins (λ b. b == 116) bytes then (word_at (codes "true") bytes >>= λ rest. Ok (values.Bool true, rest))
    else (word_at (codes "false") bytes >>= λ rest. Ok (values.Bool false, rest))

-- ---- numbers

-- how many digits stand at the start, a leading zero alone
abbrev pub natural_len : List ℕ → ℕ
natural_len [] = 0
natural_len (b ∷ rest) = if b == 48 then 1 else prefix_len (λ c. is_digit c 10) (b ∷ rest)

-- the same after a minus, where no zero leads
abbrev pub positive_len : List ℕ → ℕ
positive_len [] = 0
positive_len (b ∷ rest) = if b == 48 then 0 else prefix_len (λ c. is_digit c 10) (b ∷ rest)

-- the bytes after a minus, or all
abbrev pub body_of : List ℕ → List ℕ
body_of [] = []
body_of (b ∷ rest) = if b == 45 then rest else b ∷ rest

abbrev pub digits_of : List ℕ → ℕ
digits_of [] = 0
digits_of (b ∷ rest) = if b == 45 then positive_len rest else natural_len (b ∷ rest)

-- so many bytes
abbrev pub word_of : ℕ → List ℕ → Read (List ℕ)
word_of len bytes = Ok (take len bytes, drop len bytes)

unfoldable pub number_word_at : List ℕ → Read (List ℕ)
number_word_at bytes =
    if digits_of bytes == 0 then unexpected (body_of bytes)
    else word_of (length bytes - length (body_of bytes) + digits_of bytes) bytes

abbrev pub out_of_range : {B : Type 0} → List ℕ → Result B Stop
out_of_range left = Err (record { left = left; why = Range })

unfoldable pub integer_at : List ℕ → Read ℤ
integer_at bytes = do
  word ← number_word_at bytes
  if is_in_range word.0 then Ok (whole_number word.0, word.1) else out_of_range bytes

-- ---- enumerators

-- how many bytes a word and a name begin with alike
abbrev pub common_len : List ℕ → List ℕ → ℕ
common_len [] name = 0
common_len (b ∷ word) [] = 0
common_len (b ∷ word) (a ∷ name) = if a == b then suc (common_len word name) else 0

-- how many bytes of a word begin some enumerator's name
abbrev pub longest_begun : List Item → List ℕ → ℕ
longest_begun [] word = 0
longest_begun (item ∷ items) word = max (common_len word item.name) (longest_begun items word)

abbrev pub word_len : List ℕ → ℕ
word_len bytes = prefix_len is_word_byte bytes

-- the number of a word, if it is a name
abbrev pub named : Option ℤ → List Item → ℕ → List ℕ → Read ℤ
named (Some n) items len bytes = Ok (n, drop len bytes)
named None items len bytes = unexpected (drop (longest_begun items (take len bytes)) bytes)

unfoldable pub name_at : List Item → List ℕ → Read ℤ
name_at items bytes = named (number_named items (take (word_len bytes) bytes)) items (word_len bytes) bytes

-- the number that is said, by its digits or by an enumerator's name
abbrev pub said_at : Declared → TyLayer → List ℕ → Read ℤ
said_at d (ty.Enum k) bytes = if begins is_ascii_alphabetic bytes then name_at (items_at d k) bytes else integer_at bytes
said_at d t bytes = integer_at bytes

unfoldable pub number_at : Declared → TyLayer → List ℕ → Read Value
number_at d t bytes = do
  n ← said_at d t bytes
  if is_number_of t n.0 then Ok (values.Num n.0, n.1) else out_of_range bytes

-- ---- texts and bytes

unfoldable pub digit_at : List ℕ → Read ℕ
digit_at [] = unexpected []
digit_at (b ∷ rest) = if is_digit b 16 then Ok (digit_value b, rest) else unexpected (b ∷ rest)

-- the byte of two digits
unfoldable pub pair_at : List ℕ → Read (Option ℕ)
pair_at bytes = do
  high ← digit_at bytes
  low ← digit_at high.1
  Ok (Some (16 * high.0 + low.0), low.1)

-- after a backslash
unfoldable pub escape_at : List ℕ → Read (Option ℕ)
escape_at [] = unexpected []
escape_at (b ∷ rest) =
    if b == 120 then pair_at rest else (if b == 34 || b == 92 then Ok (Some b, rest) else unexpected (b ∷ rest))

-- a byte of a text, or the quote that ends it
unfoldable pub text_unit_at : List ℕ → Read (Option ℕ)
text_unit_at [] = unexpected []
text_unit_at (b ∷ rest) =
    if b == 34 then Ok (None, rest)
    else (if b == 92 then escape_at rest
    else (if nat_le 32 b && nat_le b 126 then Ok (Some b, rest) else unexpected (b ∷ rest)))

-- a byte of two digits, or what follows them
unfoldable pub blob_unit_at : List ℕ → Read (Option ℕ)
blob_unit_at bytes = if begins (λ b. is_digit b 16) bytes then pair_at bytes else Ok (None, bytes)

abbrev pub unit_at : Form → List ℕ → Read (Option ℕ)
unit_at forms.Quoted bytes = text_unit_at bytes
unit_at forms.Hexadecimal bytes = blob_unit_at bytes

-- the byte of a unit and those after it, or the end
abbrev pub unit_then : Option ℕ → List ℕ → Read (List ℕ) → Read (List ℕ)
unit_then None rest others = Ok ([], rest)
unit_then (Some b) rest others = others >>= λ o. Ok (b ∷ o.0, o.1)

-- at most so many units
unfoldable pub units_at : Form → ℕ → List ℕ → Read (List ℕ)
units_at form zero bytes = unexpected bytes
units_at form (suc count) bytes = do
  unit ← unit_at form bytes
  unit_then unit.0 unit.1 (units_at form count unit.1)

unfoldable pub text_at : List ℕ → Read Value
text_at bytes = do
  inside ← byte_at 34 bytes
  text ← units_at forms.Quoted (length inside + 1) inside
  Ok (values.Text text.0, text.1)

unfoldable pub blob_at : List ℕ → Read Value
blob_at bytes = do
  digits ← byte_at 35 bytes
  blob ← units_at forms.Hexadecimal (length digits + 1) digits
  Ok (values.Blob blob.0, blob.1)
