-- Every value comes back: what is written for it says it again, and a body can hold it.
use Rattle.std.proofs.Common.{◌≡◌, ◌<◌, ◌^◌, ◌+◌, ◌-◌, ℕ, Bool, true, leb, ℤ, List, [], ◌∷◌, length, map, slice_index, Ok, refl, sym, ap, ◌∙◌, subst, ltb-true, arith}
use Rattle.std.specs.List.{AllByRecursion, list_all}
use Rattle.std.proofs.lemmas.Bool.{and_parts, cond_both, not-true}
use Rattle.std.proofs.lemmas.List.{length-map}
use Rattle.wire_words.specs.Tree.{whole, string1, string4, simple_list, list as wire_list_of, map as wire_map_of, struct as wire_struct_of}
use Rattle.wire_words.specs.Spelling.{shortest}
use Rattle.tars_model.specs.Declarations.{Declared, members_at}
use Rattle.tars_model.specs.Schemas.{IsSchema}
use Rattle.tars_model.specs.Types.{TyLayer, depths_of}
use Rattle.tars_model.specs.Values.{told, told_entry, is_byte, is_bool, is_number_of, keys_rise, entry_key, entry_fits, fits_text, fits_blob, fits_list, fits_map, fits_struct}
use Rattle.tars_model.specs.declared.member.Member.{Member}
use Rattle.tars_model.specs.declared.ty.Ty.{Ty, out-Ty}
use Rattle.tars_model.specs.declared.ty.Ty.TheOpen as ty
use Rattle.tars_model.specs.declared.value.Value.{Value, ind-Value, roll-Value, map-Value}
use Rattle.tars_model.specs.declared.value.Value.TheOpen as value
use Rattle.tars_model.specs.declared.value.Value.TheVariants as values
use Rattle.tars_model.specs.declared.value.Value.TheVariants.{rolls-Bool, rolls-Num, rolls-Text, rolls-Blob, rolls-List, rolls-Map, rolls-Struct}
use Rattle.tars_model.specs.declared.value.Pair.{Pair, Pair-F, roll-Pair}
use Rattle.tars_model.proofs.ToldLaws.{told_fits_bool, told_fits_num, told_fits_text, told_fits_blob, told_fits_list, told_fits_map, told_fits_struct, all_entries, entry_keys}
use Rattle.tars_wire.specs.Writable.{ValuesWritable}
use Rattle.tars_wire.proofs.Writing.Shortest.{shortest_in_kind}
use Rattle.tars_decode.specs.Reads.{text_as, blob_as, all_say}
use Rattle.tars_decode.proofs.SchemaLaws.{structs_rise}
use Rattle.tars_codec.specs.Written.{bool_number, wire_value, wire_entry, wire_text, wire_elements, wire_entries, wire_members, wire_list, wire_map, wire_struct}
use Rattle.tars_codec.proofs.Fitting.{short_text, short_blob}
use Rattle.tars_codec.proofs.Layers.{bool_wire, num_wire, text_wire, blob_wire, list_wire, map_wire, struct_wire}
use Rattle.tars_codec.proofs.Pieces.{count_elements, count_entries}
use Rattle.tars_codec.proofs.ReadBack.StandsFor.{depth, StandsFor, ComesBack, by_wire}
use Rattle.tars_codec.proofs.ReadBack.Depths.{depth_at, at_most_greater, Below, members_below}
use Rattle.tars_codec.proofs.ReadBack.Numbers.{num_again, bool_again, num_wide, bool_wide}
use Rattle.tars_codec.proofs.ReadBack.Entries.{EntryComesBack, all_entries_again, entries_fit}
use Rattle.tars_codec.proofs.ReadBack.Members.{start_at_0, all_members_again, members_fit}

-- ---- numbers, texts and simple lists

text_again : (bytes : List ℕ) (l : TyLayer) → fits_text (length bytes) l ≡ true → text_as bytes l ≡ Ok (values.Text bytes)
text_again bytes ty.Text fits = refl
text_again bytes _ fits = absurd cc

blob_again : (bytes : List ℕ) (l : TyLayer) → fits_blob (length bytes) l ≡ true → blob_as bytes l ≡ Ok (values.Blob bytes)
blob_again bytes (ty.Vector of) fits = rw (and_parts (is_byte (out-Ty of)) _ fits).0 refl
blob_again bytes _ fits = absurd cc

module _ (d : Declared) where
  bool_comes : (b : Bool) → ComesBack d (values.Bool b)
  bool_comes b t fits =
      let is : is_bool (out-Ty t) ≡ true = sym (told_fits_bool (values.Bool b) d t b refl) ∙ fits in
      by_wire d t (values.Bool b) (whole (shortest (bool_number b))) (bool_wire (values.Bool b) d t b refl)
      (record { again = bool_again (out-Ty t) b is; fits = λ room deep. shortest_in_kind (bool_number b) (bool_wide b) })

  num_comes : (n : ℤ) → ComesBack d (values.Num n)
  num_comes n t fits =
      let is : is_number_of (out-Ty t) n ≡ true = sym (told_fits_num (values.Num n) d t n refl) ∙ fits in
      by_wire d t (values.Num n) (whole (shortest n)) (num_wire (values.Num n) d t n refl)
      (record { again = num_again (out-Ty t) n is; fits = λ room deep. shortest_in_kind n (num_wide (out-Ty t) n is) })

  text_comes : (bytes : List ℕ) → ComesBack d (values.Text bytes)
  text_comes bytes t fits =
      let is : fits_text (length bytes) (out-Ty t) ≡ true = sym (told_fits_text (values.Text bytes) d t bytes refl) ∙ fits in
      let again = text_again bytes (out-Ty t) is in
      by_wire d t (values.Text bytes) (wire_text bytes) (text_wire (values.Text bytes) d t bytes refl)
      (cond_both (leb (length bytes) 255) (string1 bytes) (string4 bytes) (StandsFor d t (values.Text bytes)) (λ short. record { again = again; fits = λ room deep. tt }) (λ long. record { again = again; fits = λ room deep. short_text (length bytes) (out-Ty t) is }))

  blob_comes : (bytes : List ℕ) → ComesBack d (values.Blob bytes)
  blob_comes bytes t fits =
      let is : fits_blob (length bytes) (out-Ty t) ≡ true = sym (told_fits_blob (values.Blob bytes) d t bytes refl) ∙ fits in
      by_wire d t (values.Blob bytes) (simple_list bytes) (blob_wire (values.Blob bytes) d t bytes refl)
      (record { again = blob_again bytes (out-Ty t) is; fits = λ room deep. short_blob (length bytes) (out-Ty t) is })

  -- ---- lists

  elements_again : (of : Ty) (vs : List Value) (i : ℕ) → AllByRecursion (ComesBack d) vs → list_all (λ v. v.fits d of) (map told vs) ≡ true → all_say (wire_elements d of (map wire_value vs)) d of i ≡ Ok vs
  elements_again of [] i each fit = refl
  elements_again of (v ∷ vs) i each fit =
      let parts = and_parts ((told v).fits d of) (list_all (λ v. v.fits d of) (map told vs)) fit in
      rw ((each.0 of parts.0).again, elements_again of vs (i + 1) each.1 parts.1) refl

  elements_fit : (of : Ty) (vs : List Value) (room : ℕ) → depth d of < room → AllByRecursion (ComesBack d) vs → list_all (λ v. v.fits d of) (map told vs) ≡ true → ValuesWritable (wire_elements d of (map wire_value vs)) room
  elements_fit of [] room deep each fit = tt
  elements_fit of (v ∷ vs) room deep each fit =
      let parts = and_parts ((told v).fits d of) (list_all (λ v. v.fits d of) (map told vs)) fit in
      ((each.0 of parts.0).fits room deep, elements_fit of vs room deep each.1 parts.1)

  list_stands : (t of : Ty) (vs : List Value) → out-Ty t ≡ ty.Vector of → AllByRecursion (ComesBack d) vs → fits_list (map told vs) d (ty.Vector of) ≡ true → StandsFor d t (values.List vs) (wire_list_of (wire_elements d of (map wire_value vs)))
  list_stands t of vs is each fits =
      let parts = and_parts _ _ fits in
      let sized = and_parts _ _ parts.0 in
      let few : length (map told vs) < 2 ^ 31 = ltb-true (length (map told vs)) (2 ^ 31) sized.1 in
      let count = count_elements d of vs in
      let same = length-map vs told in
      let deeper = depth_at (depths_of d.structs) t (ty.Vector of) is in
      record {
        again = rw (is, elements_again of vs 0 each parts.1, not-true (is_byte (out-Ty of)) sized.0) refl;
        fits = λ room deep. (omega arith, omega arith, elements_fit of vs (room - 1) (omega arith) each parts.1);
      }

  list_comes : (vs : List Value) → AllByRecursion (ComesBack d) vs → ComesBack d (values.List vs)
  list_comes vs each t fits = by_type (out-Ty t) refl (sym (told_fits_list (values.List vs) d t vs refl) ∙ fits)
    where
      by_type : (l : TyLayer) → out-Ty t ≡ l → fits_list (map told vs) d l ≡ true → StandsFor d t (values.List vs) (wire_value (values.List vs) d t)
      by_type (ty.Vector of) is fits =
          by_wire d t (values.List vs) (wire_list_of (wire_elements d of (map wire_value vs))) (list_wire (values.List vs) d t vs refl ∙ ap (wire_list (map wire_value vs) d) is) (list_stands t of vs is each fits)
      by_type _ is fits = absurd cc

  -- ---- maps

  map_stands : (t from to : Ty) (ps : List Pair) → out-Ty t ≡ ty.Map from to → AllByRecursion (EntryComesBack d) ps → fits_map (map told_entry ps) d (ty.Map from to) ≡ true → StandsFor d t (values.Map ps) (wire_map_of (wire_entries d from to (map wire_entry ps)))
  map_stands t from to ps is each fits =
      let parts = and_parts _ _ fits in
      let sized = and_parts _ _ parts.0 in
      let few : length (map told_entry ps) < 2 ^ 31 = ltb-true (length (map told_entry ps)) (2 ^ 31) sized.0 in
      let rise : keys_rise (map entry_key ps) ≡ true = ap keys_rise (sym (entry_keys ps)) ∙ sized.1 in
      let all : list_all (entry_fits d from to) ps ≡ true = sym (all_entries d from to ps) ∙ parts.1 in
      let count = count_entries d from to ps in
      let same = length-map ps told_entry in
      let deeper = depth_at (depths_of d.structs) t (ty.Map from to) is in
      let least = at_most_greater (depth d from) (depth d to) in
      record {
        again = rw (is, all_entries_again d from to ps rise each all) refl;
        fits = λ room deep. (omega arith, omega arith, entries_fit d from to ps (room - 1) (omega arith) (omega arith) each all);
      }

  map_comes : (ps : List Pair) → AllByRecursion (EntryComesBack d) ps → ComesBack d (values.Map ps)
  map_comes ps each t fits = by_type (out-Ty t) refl (sym (told_fits_map (values.Map ps) d t ps refl) ∙ fits)
    where
      by_type : (l : TyLayer) → out-Ty t ≡ l → fits_map (map told_entry ps) d l ≡ true → StandsFor d t (values.Map ps) (wire_value (values.Map ps) d t)
      by_type (ty.Map from to) is fits =
          by_wire d t (values.Map ps) (wire_map_of (wire_entries d from to (map wire_entry ps))) (map_wire (values.Map ps) d t ps refl ∙ ap (wire_map (map wire_entry ps) d) is) (map_stands t from to ps is each fits)
      by_type _ is fits = absurd cc

  -- ---- structs

  less_deep : (n room : ℕ) (ms : List Member) → slice_index (depths_of d.structs) n < room → AllByRecursion (Below (depths_of d.structs) n) ms → AllByRecursion (λ (m : Member). depth d m.ty < room - 1) ms
  less_deep n room [] deep all = tt
  less_deep n room (m ∷ ms) deep all = let here = all.0.below in (omega arith, less_deep n room ms deep all.1)

  struct_stands : IsSchema d → (t : Ty) (n : ℕ) (vs : List Value) → out-Ty t ≡ ty.Struct n → AllByRecursion (ComesBack d) vs → fits_struct (map told vs) d (ty.Struct n) ≡ true → StandsFor d t (values.Struct vs) (wire_struct_of (wire_members d (members_at d n) (map wire_value vs)))
  struct_stands schema t n vs is each fits =
      let ms = members_at d n in
      let deeper = depth_at (depths_of d.structs) t (ty.Struct n) is in
      record {
        again = rw (is, all_members_again d ms vs (structs_rise schema n) each fits) refl;
        fits = λ room deep. (omega arith, members_fit d ms vs 0 (room - 1) (start_at_0 ms) (structs_rise schema n) (less_deep n room ms (omega arith) (members_below schema n)) each fits);
      }

  struct_comes : IsSchema d → (vs : List Value) → AllByRecursion (ComesBack d) vs → ComesBack d (values.Struct vs)
  struct_comes schema vs each t fits = by_type (out-Ty t) refl (sym (told_fits_struct (values.Struct vs) d t vs refl) ∙ fits)
    where
      by_type : (l : TyLayer) → out-Ty t ≡ l → fits_struct (map told vs) d l ≡ true → StandsFor d t (values.Struct vs) (wire_value (values.Struct vs) d t)
      by_type (ty.Struct n) is fits =
          by_wire d t (values.Struct vs) (wire_struct_of (wire_members d (members_at d n) (map wire_value vs))) (struct_wire (values.Struct vs) d t vs refl ∙ ap (wire_struct (map wire_value vs) d) is) (struct_stands schema t n vs is each fits)
      by_type _ is fits = absurd cc

-- ---- all kinds

each_of : {S X : Type 0} (P : X → Type 0) (f : S → X) → ((s : S) → P (f s)) → (ss : List S) → AllByRecursion P (map f ss)
each_of P f holds [] = tt
each_of P f holds (s ∷ ss) = (holds s, each_of P f holds ss)

pub comes_back : {d : Declared} → IsSchema d → (v : Value) → ComesBack d v
comes_back {d} schema v = ind-Value (ComesBack d) (EntryComesBack d)
    (λ x y e. subst (λ (x : value.Value-F Value Pair). ComesBack d (roll-Value x)) e
    (elim y as (λ y. ComesBack d (roll-Value (map-Value _ _ Value Pair (λ e. e.0) (λ e. e.0) y))) [
      | value.Bool b ↦ subst (ComesBack d) (sym (rolls-Bool b)) (bool_comes d b)
      | value.Num n ↦ subst (ComesBack d) (sym (rolls-Num n)) (num_comes d n)
      | value.Text s ↦ subst (ComesBack d) (sym (rolls-Text s)) (text_comes d s)
      | value.Blob s ↦ subst (ComesBack d) (sym (rolls-Blob s)) (blob_comes d s)
      | value.List vs ↦ subst (ComesBack d) (sym (rolls-List (map (λ e. e.0) vs))) (list_comes d (map (λ e. e.0) vs) (each_of (ComesBack d) (λ e. e.0) (λ e. e.1) vs))
      | value.Map ps ↦ subst (ComesBack d) (sym (rolls-Map (map (λ e. e.0) ps))) (map_comes d (map (λ e. e.0) ps) (each_of (EntryComesBack d) (λ e. e.0) (λ e. e.1) ps))
      | value.Struct vs ↦ subst (ComesBack d) (sym (rolls-Struct (map (λ e. e.0) vs))) (struct_comes d schema (map (λ e. e.0) vs) (each_of (ComesBack d) (λ e. e.0) (λ e. e.1) vs))
    ]))
    (λ x y e. subst (λ (x : Pair-F Value Pair). EntryComesBack d (roll-Pair x)) e (y.key.1, y.value.1)) v
