-- Where and why a text begins with no value (docs/SCRIPTS.md, "Value text"). In each definition `here` is what is left of
-- the bytes at some place of them, and all that stands before it there is spelled by all rules.
use Rattle.std.specs.Prelude.{◌≡◌, ◌<◌, ◌-◌, ℕ, false, true, ℤ, List, [], ◌∷◌, ◌++◌, length, codes}
use Rattle.std.specs.List.{Contains}
use Rattle.longest_prefix.specs.Prefixes.{FaultAt}
use Rattle.tars_model.specs.Declarations.{Declared, members_at}
use Rattle.tars_model.specs.Values.{Key, key_of, entry_key, is_byte, is_number_of}
use Rattle.tars_model.specs.declared.member.Member.{Member}
use Rattle.tars_model.specs.declared.ty.Ty.{Ty, out-Ty}
use Rattle.tars_model.specs.declared.ty.Ty.TheOpen as ty
use Rattle.tars_model.specs.declared.value.Pair.{Pair}
use Rattle.tars_model.specs.declared.value.Value.{Value, out-Value}
use Rattle.value_text.specs.Spelling.{past_gap, SaysNumber, FORM, has_numbers, SpellsBy, Spells, Entry}
use Rattle.value_text.specs.declared.value_fault.ValueWhy.{ValueWhy}
use Rattle.value_text.specs.declared.value_fault.ValueWhy.TheVariants.{Unexpected, Range, TwiceKey}

-- ---- how far values go well

-- elements, each with a comma after it
pub data AfterElements (d : Declared) (of : Ty) : List ℕ → List ℕ → Type 0 where
  no_element : {here : List ℕ} → AfterElements d of here here
  one_element : {v : Value} {bytes here : List ℕ} (next inside : List ℕ) → Spells d of v bytes next → past_gap next ≡ codes "," ++ inside → AfterElements d of (past_gap inside) here → AfterElements d of bytes here

-- entries, each with a comma after it. No key is among those before, and the other keys are all of them at the end.
pub data AfterEntries (d : Declared) (key to : Ty) : List Key → List ℕ → List Key → List ℕ → Type 0 where
  no_entry : {keys : List Key} {here : List ℕ} → AfterEntries d key to keys here keys here
  one_entry : {p : Pair} {before keys : List Key} {bytes here : List ℕ} (next inside : List ℕ) → Entry d key to p bytes next → ¬ Contains before (entry_key p) → past_gap next ≡ codes "," ++ inside → AfterEntries d key to (entry_key p ∷ before) (past_gap inside) keys here → AfterEntries d key to before bytes keys here

-- members, each with a comma after it, and those that are left
pub data AfterMembers (d : Declared) : List Member → List ℕ → List Member → List ℕ → Type 0 where
  no_member : {ms : List Member} {here : List ℕ} → AfterMembers d ms here ms here
  one_member : {m : Member} {ms left : List Member} {v : Value} {bytes here : List ℕ} (equals start next inside : List ℕ) → bytes ≡ m.name ++ equals → past_gap equals ≡ codes "=" ++ start → Spells d m.ty v (past_gap start) next → past_gap next ≡ codes "," ++ inside → AfterMembers d ms (past_gap inside) left here → AfterMembers d (m ∷ ms) bytes left here

-- a map comes to the start of a key, after entries that have these keys
pub record OpensKey (d : Declared) (t key to : Ty) (bytes : List ℕ) (keys : List Key) (here : List ℕ) : Type 0 where
  pub inside : List ℕ
  pub is_map : out-Ty t ≡ ty.Map key to
  pub text : bytes ≡ codes "{" ++ inside
  pub entries : AfterEntries d key to [] (past_gap inside) keys here

-- a value of a type comes to the start of one of another type directly inside it: an element, a key, a value whose key is
-- none of those before, or a member's value
pub data Opens (d : Declared) : Ty → List ℕ → Ty → List ℕ → Type 0 where
  element : {t of : Ty} {bytes here : List ℕ} (inside : List ℕ) → out-Ty t ≡ ty.Vector of → is_byte (out-Ty of) ≡ false → bytes ≡ codes "[" ++ inside → AfterElements d of (past_gap inside) here → Opens d t bytes of here
  key : {t key to : Ty} {keys : List Key} {bytes here : List ℕ} → OpensKey d t key to bytes keys here → Opens d t bytes key here
  value : {t key to : Ty} {keys : List Key} {k : Value} {bytes here : List ℕ} (start colon after : List ℕ) → OpensKey d t key to bytes keys start → Spells d key k start colon → ¬ Contains keys (key_of (out-Value k)) → past_gap colon ≡ codes ":" ++ after → here ≡ past_gap after → Opens d t bytes to here
  member : {t : Ty} {m : Member} {left : List Member} {bytes here : List ℕ} (number : ℕ) (inside start equals after : List ℕ) → out-Ty t ≡ ty.Struct number → bytes ≡ codes "(" ++ inside → AfterMembers d (members_at d number) (past_gap inside) (m ∷ left) start → start ≡ m.name ++ equals → past_gap equals ≡ codes "=" ++ after → here ≡ past_gap after → Opens d t bytes m.ty here

-- the same, any number of times
pub data Reaches (d : Declared) : Ty → List ℕ → Ty → List ℕ → Type 0 where
  itself : {t : Ty} {here : List ℕ} → Reaches d t here t here
  deeper : {t u w : Ty} {bytes there here : List ℕ} → Opens d t bytes u there → Reaches d u there w here → Reaches d t bytes w here

-- ---- faults

-- the first rule that is not kept: a number is out of its type's range, or a key is one of those before it
pub data BreaksRule (d : Declared) (t : Ty) (text here : List ℕ) (why : ValueWhy) : Type 0 where
  out_of_range : {u : Ty} {n : ℤ} {rest : List ℕ} → why ≡ Range → Reaches d t text u here → has_numbers (out-Ty u) ≡ true → SaysNumber d (out-Ty u) n here rest → is_number_of (out-Ty u) n ≡ false → BreaksRule d t text here why
  key_again : {u key to : Ty} {keys : List Key} {k : Value} {bytes colon : List ℕ} → why ≡ TwiceKey → Reaches d t text u bytes → OpensKey d u key to bytes keys here → Spells d key k here colon → Contains keys (key_of (out-Value k)) → BreaksRule d t text here why

-- by its form the text begins with a value
abbrev pub HasForm : Declared → Ty → List ℕ → Type 0
HasForm d t text = (v : Value) × (rest : List ℕ) × SpellsBy FORM d t v text rest

-- A rule is not kept, at its place. Or no rule is broken, and so many bytes are the longest prefix of the text that some
-- text of the form goes on after.
pub data FaultOf (d : Declared) (t : Ty) (text : List ℕ) (at : ℕ) (why : ValueWhy) : Type 0 where
  rule : (here : List ℕ) → BreaksRule d t text here why → at ≡ length text - length here → FaultOf d t text at why
  form : why ≡ Unexpected → ((here : List ℕ) (other : ValueWhy) → ¬ BreaksRule d t text here other) → ¬ HasForm d t text → FaultAt (HasForm d t) text at → FaultOf d t text at why

-- The fault of the text of a value file: that of its value, or the first other byte after it.
pub data WholeFaultOf (d : Declared) (t : Ty) (text : List ℕ) (at : ℕ) (why : ValueWhy) : Type 0 where
  in_value : FaultOf d t text at why → WholeFaultOf d t text at why
  after_value : {v : Value} (rest : List ℕ) → why ≡ Unexpected → Spells d t v text rest → 0 < length (past_gap rest) → at ≡ length text - length (past_gap rest) → WholeFaultOf d t text at why
