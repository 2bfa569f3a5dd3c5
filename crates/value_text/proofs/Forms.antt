-- What is spelled by all rules has the form of a value.
use Rattle.std.proofs.Common.{◌≡◌, ℕ, ℤ, true, List, [], ◌∷◌, refl}
use Rattle.tars_model.specs.Declarations.{Declared}
use Rattle.tars_model.specs.Types.{TyLayer}
use Rattle.tars_model.specs.Values.{is_number_of}
use Rattle.tars_model.specs.declared.member.Member.{Member}
use Rattle.tars_model.specs.declared.ty.Ty.{Ty, out-Ty}
use Rattle.tars_model.specs.declared.ty.Ty.TheOpen as ty
use Rattle.tars_model.specs.declared.value.Pair.{Pair}
use Rattle.tars_model.specs.declared.value.Value.{Value}
use Rattle.tars_model.specs.declared.value.Value.TheVariants as values
use Rattle.value_text.specs.ValueSteps.{as_entry}
use Rattle.value_text.specs.Spelling.{ALL, FORM, has_numbers, SpellsBy, ElementsBy, EntriesBy, EntryBy, MembersBy}
use Rattle.value_text.specs.Spelling as spelling

-- a type that has this number has numbers
pub has_one : (l : TyLayer) (n : ℤ) → is_number_of l n ≡ true → has_numbers l ≡ true
has_one ty.Byte n h = refl
has_one ty.Short n h = refl
has_one ty.Int n h = refl
has_one ty.Long n h = refl
has_one ty.UByte n h = refl
has_one ty.UShort n h = refl
has_one ty.UInt n h = refl
has_one (ty.Enum k) n h = refl
has_one _ n h = absurd cc

mutual
  pub has_form : {d : Declared} {t : Ty} {v : Value} {bytes rest : List ℕ} → SpellsBy ALL d t v bytes rest → (w : Value) × SpellsBy FORM d t w bytes rest
  has_form {v = v} (spelling.truth b is v_is text) = (v, spelling.truth b is v_is text)
  has_form {t = t} {v = v} (spelling.number n fits v_is says) = (v, spelling.number n (has_one (out-Ty t) n fits) v_is says)
  has_form {v = v} (spelling.text s inside is v_is text inner) = (v, spelling.text s inside is v_is text inner)
  has_form {v = v} (spelling.blob of s inside is byte v_is text inner) = (v, spelling.blob of s inside is byte v_is text inner)
  has_form {v = v} (spelling.no_elements of inside is other v_is text closes) = (v, spelling.no_elements of inside is other v_is text closes)
  has_form (spelling.elements of vs inside is other v_is text inner) = let e = elements_form inner in (values.List e.0, spelling.elements of e.0 inside is other refl text e.1)
  has_form {v = v} (spelling.no_entries key to inside is v_is text closes) = (v, spelling.no_entries key to inside is v_is text closes)
  has_form (spelling.entries key to ps all inside is v_is text inner placed) = let e = entries_form inner in (values.Map e.0, spelling.entries key to e.0 e.0 inside is refl text e.1 refl)
  has_form (spelling.members k vs inside is v_is text inner) = let e = members_form inner in (values.Struct e.0, spelling.members k e.0 inside is refl text e.1)

  pub elements_form : {d : Declared} {of : Ty} {vs : List Value} {bytes rest : List ℕ} → ElementsBy ALL d of vs bytes rest → (ws : List Value) × ElementsBy FORM d of ws bytes rest
  elements_form (spelling.last_element next is closes) = let e = has_form is in (e.0 ∷ [], spelling.last_element next e.1 closes)
  elements_form (spelling.more_elements next inside is comma others) = let e = has_form is in let o = elements_form others in (e.0 ∷ o.0, spelling.more_elements next inside e.1 comma o.1)

  pub entries_form : {d : Declared} {key to : Ty} {ps : List Pair} {bytes rest : List ℕ} → EntriesBy ALL d key to ps bytes rest → (qs : List Pair) × EntriesBy FORM d key to qs bytes rest
  entries_form (spelling.last_entry next is closes) = let e = entry_form is in (e.0 ∷ [], spelling.last_entry next e.1 closes)
  entries_form (spelling.more_entries next inside is comma others) = let e = entry_form is in let o = entries_form others in (e.0 ∷ o.0, spelling.more_entries next inside e.1 comma o.1)

  pub entry_form : {d : Declared} {key to : Ty} {p : Pair} {bytes rest : List ℕ} → EntryBy ALL d key to p bytes rest → (q : Pair) × EntryBy FORM d key to q bytes rest
  entry_form (spelling.entry k v colon start p_is key_is sign value_is) = let e = has_form key_is in let o = has_form value_is in (as_entry e.0 o.0, spelling.entry e.0 o.0 colon start refl e.1 sign o.1)

  pub members_form : {d : Declared} {ms : List Member} {vs : List Value} {bytes rest : List ℕ} → MembersBy ALL d ms vs bytes rest → (ws : List Value) × MembersBy FORM d ms ws bytes rest
  members_form (spelling.no_members text) = ([], spelling.no_members text)
  members_form (spelling.more_members equals start next after name sign is comma others) = let e = has_form is in let o = members_form others in (e.0 ∷ o.0, spelling.more_members equals start next after name sign e.1 comma o.1)
