-- What texts say a value (docs/SCRIPTS.md, "Value text"). In each definition the bytes begin with the text, and the rest
-- comes after it.
use Rattle.std.specs.Prelude.{◌≡◌, ℕ, suc, ◌+◌, ◌*◌, ◌==◌, nat_le, Bool, true, false, ◌&&◌, ◌||◌, not, if◌then◌else◌, ℤ, pos, negsuc, Option, Some, None, List, [], ◌∷◌, ◌++◌, map, codes}
use Rattle.std.specs.Char.{is_ascii_alphabetic, is_digit, digit_value}
use Rattle.std.specs.Str.{bytes_eq}
use Rattle.std.specs.Str.Parse.{digits_value}
use Rattle.canonical_text.specs.Canonical.{truth_word}
use Rattle.idl_lex.specs.Bytes.{begins, is_word_byte}
use Rattle.idl_lex.specs.LexSteps.{run, after_run}
use Rattle.tars_model.specs.Declarations.{Declared, members_at, items_at}
use Rattle.tars_model.specs.Types.{TyLayer}
use Rattle.tars_model.specs.Values.{entry_key, keys_rise, is_byte, is_number_of}
use Rattle.tars_model.specs.declared.enum_desc.Item.{Item}
use Rattle.tars_model.specs.declared.member.Member.{Member}
use Rattle.tars_model.specs.declared.ty.Ty.{Ty, out-Ty}
use Rattle.tars_model.specs.declared.ty.Ty.TheOpen as ty
use Rattle.tars_model.specs.declared.value.Pair.{Pair, roll-Pair}
use Rattle.tars_model.specs.declared.value.Value.{Value}
use Rattle.tars_model.specs.declared.value.Value.TheVariants as values

-- ---- between tokens

-- what stands after any spaces and line feeds; no token begins with one
abbrev pub past_gap : List ℕ → List ℕ
past_gap [] = []
past_gap (b ∷ rest) = if b == 32 || b == 10 then past_gap rest else b ∷ rest

-- ---- numbers

abbrev pub is_decimal : ℕ → Bool
is_decimal b = is_digit b 10

-- 1 to 9
abbrev pub is_positive : ℕ → Bool
is_positive b = nat_le 49 b && nat_le b 57

-- A natural number of any size in decimal digits: 0 is one digit; another has no leading zero, and all digits that
-- follow are its own.
pub data NaturalSpells (n : ℕ) (bytes rest : List ℕ) : Type 0 where
  nought : n ≡ 0 → bytes ≡ codes "0" ++ rest → NaturalSpells n bytes rest
  positive : begins is_positive bytes ≡ true → n ≡ digits_value 10 (run is_decimal bytes) → rest ≡ after_run is_decimal bytes → NaturalSpells n bytes rest

-- a whole number of any size, a minus before it if it is negative
pub data NumberSpells (n : ℤ) (bytes rest : List ℕ) : Type 0 where
  natural : (m : ℕ) → n ≡ pos m → NaturalSpells m bytes rest → NumberSpells n bytes rest
  negative : (m : ℕ) (inside : List ℕ) → n ≡ negsuc m → bytes ≡ codes "-" ++ inside → NaturalSpells (suc m) inside rest → NumberSpells n bytes rest

-- the number of the first enumerator of a name
unfoldable pub number_named : List Item → List ℕ → Option ℤ
number_named [] name = None
number_named (item ∷ items) name = if bytes_eq item.name name then Some item.number else number_named items name

-- an enumerator's name: the longest word of letters, digits and `_`, which begins with a letter
pub record NameSpells (items : List Item) (n : ℤ) (bytes rest : List ℕ) : Type 0 where
  pub letter : begins is_ascii_alphabetic bytes ≡ true
  pub named : number_named items (run is_word_byte bytes) ≡ Some n
  pub after : rest ≡ after_run is_word_byte bytes

-- the number that is said under a type: digits, or under an enum one of its names too
pub data SaysNumber (d : Declared) (t : TyLayer) (n : ℤ) (bytes rest : List ℕ) : Type 0 where
  digits_of : NumberSpells n bytes rest → SaysNumber d t n bytes rest
  name : (k : ℕ) → t ≡ ty.Enum k → NameSpells (items_at d k) n bytes rest → SaysNumber d t n bytes rest

-- ---- texts and bytes

abbrev pub is_hexadecimal : ℕ → Bool
is_hexadecimal b = is_digit b 16

-- a byte in two hexadecimal digits of either case
pub record PairSpells (b : ℕ) (bytes rest : List ℕ) : Type 0 where
  pub high : ℕ
  pub low : ℕ
  pub text : bytes ≡ high ∷ low ∷ rest
  pub high_digit : is_hexadecimal high ≡ true
  pub low_digit : is_hexadecimal low ≡ true
  pub value : b ≡ 16 * digit_value high + digit_value low

-- `"` and `\` stand after a backslash
abbrev pub is_marked : ℕ → Bool
is_marked b = b == 34 || b == 92

-- 20 to 7E but those
abbrev pub is_plain : ℕ → Bool
is_plain b = nat_le 32 b && nat_le b 126 && not (is_marked b)

-- a byte of a text: itself, after a backslash, or in two digits after `\x`
pub data UnitSpells (b : ℕ) (bytes rest : List ℕ) : Type 0 where
  plain : is_plain b ≡ true → bytes ≡ b ∷ rest → UnitSpells b bytes rest
  marked : is_marked b ≡ true → bytes ≡ codes "\\" ++ b ∷ rest → UnitSpells b bytes rest
  digits : (inside : List ℕ) → bytes ≡ codes "\\x" ++ inside → PairSpells b inside rest → UnitSpells b bytes rest

-- a text after its first quote, up to its last
pub data TextSpells : List ℕ → List ℕ → List ℕ → Type 0 where
  ends_text : {bytes rest : List ℕ} → bytes ≡ codes "\"" ++ rest → TextSpells [] bytes rest
  more_text : {b : ℕ} {text bytes next rest : List ℕ} → UnitSpells b bytes next → TextSpells text next rest → TextSpells (b ∷ text) bytes rest

-- bytes in two digits each, as many as there are digits
pub data BlobSpells : List ℕ → List ℕ → List ℕ → Type 0 where
  ends_blob : {bytes rest : List ℕ} → begins is_hexadecimal rest ≡ false → bytes ≡ rest → BlobSpells [] bytes rest
  more_blob : {b : ℕ} {blob bytes next rest : List ℕ} → PairSpells b bytes next → BlobSpells blob next rest → BlobSpells (b ∷ blob) bytes rest

-- ---- values

-- Entries in the order of the text are put, one by one, among those before, where the keys still rise. No key
-- stands twice.
pub data Placed : List Pair → List Pair → List Pair → Type 0 where
  done : {before all : List Pair} → all ≡ before → Placed before [] all
  put : {p : Pair} {before ps all : List Pair} (lower higher : List Pair) → before ≡ lower ++ higher → keys_rise (map entry_key (lower ++ p ∷ higher)) ≡ true → Placed (lower ++ p ∷ higher) ps all → Placed before (p ∷ ps) all

-- the comma that stands before further members
abbrev pub Comma : List Member → List ℕ → List ℕ → Type 0
Comma [] bytes rest = rest ≡ bytes
Comma (m ∷ ms) bytes rest = (inside : List ℕ) × (bytes ≡ codes "," ++ inside) × (rest ≡ past_gap inside)

-- which rules are kept beside the form: numbers are in their types' ranges, no key stands twice in a map
pub record Rules : Type 0 where
  pub ranges : Bool
  pub keys : Bool

-- the form alone, and all rules
abbrev pub FORM : Rules
FORM = record { ranges = false; keys = false }

abbrev pub ALL : Rules
ALL = record { ranges = true; keys = true }

-- a type that has numbers has 0
abbrev pub has_numbers : TyLayer → Bool
has_numbers t = is_number_of t (pos 0)

-- a number of the type; any, where ranges are not kept
abbrev pub is_number_by : Bool → TyLayer → ℤ → Bool
is_number_by true t n = is_number_of t n
is_number_by false t n = has_numbers t

-- the entries of a map by those of the text; the same, where keys may stand twice
abbrev pub PlacedBy : Bool → List Pair → List Pair → Type 0
PlacedBy true ps all = Placed [] ps all
PlacedBy false ps all = all ≡ ps

mutual
  -- a value of a type over what is declared
  pub data SpellsBy (rules : Rules) (d : Declared) : Ty → Value → List ℕ → List ℕ → Type 0 where
    truth : {t : Ty} {v : Value} {bytes rest : List ℕ} (b : Bool) → out-Ty t ≡ ty.Bool → v ≡ values.Bool b → bytes ≡ truth_word b ++ rest → SpellsBy rules d t v bytes rest
    number : {t : Ty} {v : Value} {bytes rest : List ℕ} (n : ℤ) → is_number_by rules.ranges (out-Ty t) n ≡ true → v ≡ values.Num n → SaysNumber d (out-Ty t) n bytes rest → SpellsBy rules d t v bytes rest
    text : {t : Ty} {v : Value} {bytes rest : List ℕ} (s inside : List ℕ) → out-Ty t ≡ ty.Text → v ≡ values.Text s → bytes ≡ codes "\"" ++ inside → TextSpells s inside rest → SpellsBy rules d t v bytes rest
    blob : {t : Ty} {v : Value} {bytes rest : List ℕ} (of : Ty) (s inside : List ℕ) → out-Ty t ≡ ty.Vector of → is_byte (out-Ty of) ≡ true → v ≡ values.Blob s → bytes ≡ codes "#" ++ inside → BlobSpells s inside rest → SpellsBy rules d t v bytes rest
    no_elements : {t : Ty} {v : Value} {bytes rest : List ℕ} (of : Ty) (inside : List ℕ) → out-Ty t ≡ ty.Vector of → is_byte (out-Ty of) ≡ false → v ≡ values.List [] → bytes ≡ codes "[" ++ inside → past_gap inside ≡ codes "]" ++ rest → SpellsBy rules d t v bytes rest
    elements : {t : Ty} {v : Value} {bytes rest : List ℕ} (of : Ty) (vs : List Value) (inside : List ℕ) → out-Ty t ≡ ty.Vector of → is_byte (out-Ty of) ≡ false → v ≡ values.List vs → bytes ≡ codes "[" ++ inside → ElementsBy rules d of vs (past_gap inside) rest → SpellsBy rules d t v bytes rest
    no_entries : {t : Ty} {v : Value} {bytes rest : List ℕ} (key to : Ty) (inside : List ℕ) → out-Ty t ≡ ty.Map key to → v ≡ values.Map [] → bytes ≡ codes "{" ++ inside → past_gap inside ≡ codes "}" ++ rest → SpellsBy rules d t v bytes rest
    entries : {t : Ty} {v : Value} {bytes rest : List ℕ} (key to : Ty) (ps all : List Pair) (inside : List ℕ) → out-Ty t ≡ ty.Map key to → v ≡ values.Map all → bytes ≡ codes "{" ++ inside → EntriesBy rules d key to ps (past_gap inside) rest → PlacedBy rules.keys ps all → SpellsBy rules d t v bytes rest
    members : {t : Ty} {v : Value} {bytes rest : List ℕ} (k : ℕ) (vs : List Value) (inside : List ℕ) → out-Ty t ≡ ty.Struct k → v ≡ values.Struct vs → bytes ≡ codes "(" ++ inside → MembersBy rules d (members_at d k) vs (past_gap inside) rest → SpellsBy rules d t v bytes rest

  -- one value or more of one type, up to `]`
  pub data ElementsBy (rules : Rules) (d : Declared) : Ty → List Value → List ℕ → List ℕ → Type 0 where
    last_element : {of : Ty} {v : Value} {bytes rest : List ℕ} (next : List ℕ) → SpellsBy rules d of v bytes next → past_gap next ≡ codes "]" ++ rest → ElementsBy rules d of (v ∷ []) bytes rest
    more_elements : {of : Ty} {v : Value} {vs : List Value} {bytes rest : List ℕ} (next inside : List ℕ) → SpellsBy rules d of v bytes next → past_gap next ≡ codes "," ++ inside → ElementsBy rules d of vs (past_gap inside) rest → ElementsBy rules d of (v ∷ vs) bytes rest

  -- one entry or more in the order of the text, up to `}`
  pub data EntriesBy (rules : Rules) (d : Declared) : Ty → Ty → List Pair → List ℕ → List ℕ → Type 0 where
    last_entry : {key to : Ty} {p : Pair} {bytes rest : List ℕ} (next : List ℕ) → EntryBy rules d key to p bytes next → past_gap next ≡ codes "}" ++ rest → EntriesBy rules d key to (p ∷ []) bytes rest
    more_entries : {key to : Ty} {p : Pair} {ps : List Pair} {bytes rest : List ℕ} (next inside : List ℕ) → EntryBy rules d key to p bytes next → past_gap next ≡ codes "," ++ inside → EntriesBy rules d key to ps (past_gap inside) rest → EntriesBy rules d key to (p ∷ ps) bytes rest

  -- a key, `:` and a value
  pub data EntryBy (rules : Rules) (d : Declared) : Ty → Ty → Pair → List ℕ → List ℕ → Type 0 where
    entry : {key to : Ty} {p : Pair} {bytes rest : List ℕ} (k v : Value) (colon start : List ℕ) → p ≡ roll-Pair (record { key = k; value = v }) → SpellsBy rules d key k bytes colon → past_gap colon ≡ codes ":" ++ start → SpellsBy rules d to v (past_gap start) rest → EntryBy rules d key to p bytes rest

  -- a value for each member, after its name and `=`, up to `)`
  pub data MembersBy (rules : Rules) (d : Declared) : List Member → List Value → List ℕ → List ℕ → Type 0 where
    no_members : {bytes rest : List ℕ} → bytes ≡ codes ")" ++ rest → MembersBy rules d [] [] bytes rest
    more_members : {m : Member} {ms : List Member} {v : Value} {vs : List Value} {bytes rest : List ℕ} (equals start next after : List ℕ) → bytes ≡ m.name ++ equals → past_gap equals ≡ codes "=" ++ start → SpellsBy rules d m.ty v (past_gap start) next → Comma ms (past_gap next) after → MembersBy rules d ms vs after rest → MembersBy rules d (m ∷ ms) (v ∷ vs) bytes rest

-- the same by all rules
abbrev pub Spells : Declared → Ty → Value → List ℕ → List ℕ → Type 0
Spells d t v bytes rest = SpellsBy ALL d t v bytes rest

abbrev pub Entry : Declared → Ty → Ty → Pair → List ℕ → List ℕ → Type 0
Entry d key to p bytes rest = EntryBy ALL d key to p bytes rest

-- the text of a value file: a value, after which only spaces and line feeds stand
abbrev pub IsWhole : Declared → Ty → Value → List ℕ → Type 0
IsWhole d t v bytes = (rest : List ℕ) × Spells d t v bytes rest × (past_gap rest ≡ [])
