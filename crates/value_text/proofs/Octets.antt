-- A value that is spelled has bytes in its texts and blobs.
use Rattle.std.proofs.Common.{◌≡◌, ◌<◌, ℕ, Bool, true, ◌&&◌, List, [], map, refl, ap, ◌∙◌, arith, lt-ltb}
use Rattle.std.proofs.lemmas.Bool.{and_from}
use Rattle.std.proofs.lemmas.Bool.Decides.{nat_tests}
use Rattle.std.proofs.lemmas.List.Folds.{list_all-map}
use Rattle.std.specs.Char.{digit_value}
use Rattle.std.specs.List.{list_all}
use Rattle.tars_model.specs.Declarations.{Declared}
use Rattle.tars_model.specs.declared.member.Member.{Member}
use Rattle.tars_model.specs.declared.ty.Ty.{Ty}
use Rattle.tars_model.specs.declared.value.Pair.{Pair}
use Rattle.tars_model.specs.declared.value.Value.{Value}
use Rattle.tars_model.specs.declared.value.Value.TheOpen as value
use Rattle.tars_model.specs.declared.value.Value.TheVariants as values
use Rattle.tars_model.specs.declared.value.Value.TheVariants.{outs-Bool, outs-Num, outs-Text, outs-Blob, outs-List, outs-Map, outs-Struct}
use Rattle.value_text.specs.Printed.{are_bytes, has_bytes, entry_bytes}
use Rattle.value_text.specs.Spelling.{is_hexadecimal, is_marked, is_plain, PairSpells, UnitSpells, TextSpells, BlobSpells, SpellsBy, ElementsBy, EntriesBy, EntryBy, MembersBy, ALL}
use Rattle.value_text.specs.Spelling as spelling
use Rattle.value_text.specs.ValueSteps.{as_entry}
use Rattle.value_text.proofs.Keys.{placed_all}
use Rattle.value_text.proofs.PrintedSpells.{bytes_at, entry_bytes_out}

digit_small : (c : ℕ) → is_hexadecimal c ≡ true → digit_value c < 16
digit_small c h = grind (arith, nat_tests)

pair_octet : (b : ℕ) (bytes rest : List ℕ) → PairSpells b bytes rest → b < 256
pair_octet b bytes rest p =
    let high = digit_small p.high p.high_digit in
    let low = digit_small p.low p.low_digit in
    let value = p.value in
    omega arith

plain_octet : (b : ℕ) → is_plain b ≡ true → b < 256
plain_octet b h = grind (arith, nat_tests)

marked_octet : (b : ℕ) → is_marked b ≡ true → b < 256
marked_octet b h = grind (arith, nat_tests)

unit_octet : (b : ℕ) (bytes rest : List ℕ) → UnitSpells b bytes rest → b < 256
unit_octet b bytes rest (spelling.plain is text) = plain_octet b is
unit_octet b bytes rest (spelling.marked is text) = marked_octet b is
unit_octet b bytes rest (spelling.digits inside text pair) = pair_octet b inside rest pair

text_octets : {text bytes rest : List ℕ} → TextSpells text bytes rest → are_bytes text ≡ true
text_octets (spelling.ends_text is) = refl
text_octets (spelling.more_text {b = b} {bytes = bytes} {next = next} unit others) = and_from _ _ (lt-ltb b 256 (unit_octet b bytes next unit)) (text_octets others)

blob_octets : {blob bytes rest : List ℕ} → BlobSpells blob bytes rest → are_bytes blob ≡ true
blob_octets (spelling.ends_blob other is) = refl
blob_octets (spelling.more_blob {b = b} {bytes = bytes} {next = next} pair others) = and_from _ _ (lt-ltb b 256 (pair_octet b bytes next pair)) (blob_octets others)

abbrev both : Pair → Bool
both p = (entry_bytes p).0 && (entry_bytes p).1

mutual
  pub value_octets : {d : Declared} {t : Ty} {v : Value} {bytes rest : List ℕ} → SpellsBy ALL d t v bytes rest → has_bytes v ≡ true
  value_octets (spelling.truth b is v_is text) = ap has_bytes v_is ∙ bytes_at (values.Bool b) (value.Bool b) (outs-Bool b)
  value_octets (spelling.number n fits v_is says) = ap has_bytes v_is ∙ bytes_at (values.Num n) (value.Num n) (outs-Num n)
  value_octets (spelling.text s inside is v_is text inner) = ap has_bytes v_is ∙ bytes_at (values.Text s) (value.Text s) (outs-Text s) ∙ text_octets inner
  value_octets (spelling.blob of s inside is byte v_is text inner) = ap has_bytes v_is ∙ bytes_at (values.Blob s) (value.Blob s) (outs-Blob s) ∙ blob_octets inner
  value_octets (spelling.no_elements of inside is other v_is text closes) = ap has_bytes v_is ∙ bytes_at (values.List []) (value.List []) (outs-List [])
  value_octets (spelling.elements of vs inside is other v_is text inner) = ap has_bytes v_is ∙ bytes_at (values.List vs) (value.List vs) (outs-List vs) ∙ elements_octets inner
  value_octets (spelling.no_entries key to inside is v_is text closes) = ap has_bytes v_is ∙ bytes_at (values.Map []) (value.Map []) (outs-Map [])
  value_octets (spelling.entries key to ps all inside is v_is text inner placed) =
      ap has_bytes v_is ∙ bytes_at (values.Map all) (value.Map all) (outs-Map all)
      ∙ list_all-map (λ (p : Bool × Bool). p.0 && p.1) entry_bytes all ∙ placed_all both placed refl (entries_octets inner)
  value_octets (spelling.members k vs inside is v_is text inner) = ap has_bytes v_is ∙ bytes_at (values.Struct vs) (value.Struct vs) (outs-Struct vs) ∙ members_octets inner

  elements_octets : {d : Declared} {of : Ty} {vs : List Value} {bytes rest : List ℕ} → ElementsBy ALL d of vs bytes rest → list_all (λ b. b) (map has_bytes vs) ≡ true
  elements_octets (spelling.last_element next is closes) = and_from _ _ (value_octets is) refl
  elements_octets (spelling.more_elements next inside is comma others) = and_from _ _ (value_octets is) (elements_octets others)

  entries_octets : {d : Declared} {key to : Ty} {ps : List Pair} {bytes rest : List ℕ} → EntriesBy ALL d key to ps bytes rest → list_all both ps ≡ true
  entries_octets (spelling.last_entry next is closes) = and_from _ _ (entry_octets is) refl
  entries_octets (spelling.more_entries next inside is comma others) = and_from _ _ (entry_octets is) (entries_octets others)

  entry_octets : {d : Declared} {key to : Ty} {p : Pair} {bytes rest : List ℕ} → EntryBy ALL d key to p bytes rest → both p ≡ true
  entry_octets (spelling.entry k v colon start p_is key_is sign value_is) =
      ap both p_is ∙ ap (λ (e : Bool × Bool). e.0 && e.1) (entry_bytes_out (as_entry k v)) ∙ and_from _ _ (value_octets key_is) (value_octets value_is)

  members_octets : {d : Declared} {ms : List Member} {vs : List Value} {bytes rest : List ℕ} → MembersBy ALL d ms vs bytes rest → list_all (λ b. b) (map has_bytes vs) ≡ true
  members_octets (spelling.no_members text) = refl
  members_octets (spelling.more_members equals start next after name sign is comma others) = and_from _ _ (value_octets is) (members_octets others)
