-- Where versions agree, no value is refused.
use Rattle.std.proofs.Common.{◌≡◌, ℕ, zero, suc, ◌+◌, ◌*◌, Bool, true, false, cond, eqb, not, ℤ, List, [], ◌∷◌, length, map, Option, Some, None, Ok, Err, refl, sym, ap, ◌∙◌}
use Rattle.std.specs.List.{list_all}
use Rattle.std.proofs.lemmas.Bool.{and_parts}
use Rattle.facts.specs.ResultSteps.{◌>>=◌}
use Rattle.tars_model.specs.Declarations.{Declared, members_at}
use Rattle.std.specs.List.{All}
use Rattle.std.specs.Result.{IsOk, is_ok}
use Rattle.std.proofs.lemmas.List.Elements.{All-head, All-tail}
use Rattle.tars_model.specs.Schemas.{IsSchema}
use Rattle.tars_versions.specs.Agreement.{IsVersion}
use Rattle.tars_versions.proofs.SchemaTypes.{all_placed}
use Rattle.tars_model.specs.Types.{TyLayer, is_key}
use Rattle.tars_model.specs.Values.{told, told_entry, key_of, keys_rise, entry_key, entry_fits, fits, is_byte, is_bool, fits_text, fits_blob, fits_list, fits_map, fits_struct, fit_told, fit_members}
use Rattle.tars_model.specs.declared.member.Member.{Member}
use Rattle.tars_model.specs.declared.ty.Ty.{Ty, out-Ty}
use Rattle.tars_model.specs.declared.ty.Ty.TheOpen as ty
use Rattle.tars_model.specs.declared.value.Value.{Value, out-Value}
use Rattle.tars_model.specs.declared.value.Value.TheVariants as values
use Rattle.tars_model.specs.declared.value.Pair.{Pair, out-Pair}
use Rattle.tars_model.proofs.ToldLaws.{told_fits_bool, told_fits_num, told_fits_text, told_fits_blob, told_fits_list, told_fits_map, told_fits_struct, all_told, all_entries, entry_keys, entry_key_is, entry_fits_is}
use Rattle.tars_decode.specs.Reads.{Read, in_step, said_under, member_of, members_of, number_value, text_as, blob_as, vector_of, new_key, entry, add_entry}
use Rattle.tars_decode.specs.declared.halt.Refusal.TheVariants as refusal
use Rattle.tars_decode.proofs.KeyLaws.{rises_after}
use Rattle.tars_codec.specs.Written.{bool_number}
use Rattle.tars_versions.specs.Agreement.{agree, differ, Agreeing, MAX_LEVELS, agrees, versions_agree, at_step, numbers_of, numbers_agree, member_with, member_agrees, members_agree, agree_by, agree_within}
use Rattle.tars_versions.specs.Projected.{Projecting, number_under, project_elements, list_under, project_entries, map_under, held, struct_under, projected, projected_entry, project_members}
use Rattle.tars_versions.specs.declared.reason_kind.ReasonKind.TheVariants.{Missing}
use Rattle.tars_versions.proofs.Induction.{each_value}
use Rattle.tars_versions.proofs.EachKind.{projected_entry_out, bool_projected, num_projected, text_projected, blob_projected, list_projected, map_projected, struct_projected}
use Rattle.tars_versions.proofs.KeyTypes.{IsSome, PartsAre, parts_are, key_stays}
use Rattle.tars_versions.proofs.Ranges.{Within, number_within, bool_within, number_stays}
use Rattle.tars_versions.proofs.Accepting.Parts.{IsRead, then_read, step_read, moved_read, both_agree, step_agrees, elements_are, bytes_are}
use Rattle.tars_versions.proofs.Accepting.Entries.{all_below, BelowFirst, new_key_is, below_next}

abbrev pub AreSome : List Member → Type 0
AreSome [] = Unit {0}
AreSome (m ∷ ms) = IsSome m.ty × AreSome ms

-- ---- values

module _ (d d' : Declared) where
  -- types that agree, by what is said of them
  abbrev Accepts : Agreeing → Type 0
  Accepts inner = (t t' : Ty) → IsSome t → IsSome t' → inner t t' ≡ agree → (v : Value) → fits d t v ≡ true → IsRead (projected v d t d' t')

  module _ (inner : Agreeing) (accepts : Accepts inner) where
    elements_read : (of of' : Ty) → IsSome of → IsSome of' → inner of of' ≡ agree → (i : ℕ) (vs : List Value) → list_all (λ v. (told v).fits d of) vs ≡ true → IsRead (project_elements (map projected vs) d of d' of' i)
    elements_read of of' some some' agreed i [] fit = ([], refl)
    elements_read of of' some some' agreed i (v ∷ vs) fit =
        let parts = and_parts ((told v).fits d of) (list_all (λ v. (told v).fits d of) vs) fit in
        let rest = elements_read of of' some some' agreed (i + 1) vs parts.1 in
        then_read (in_step i (projected v d of d' of')) (λ x. project_elements (map projected vs) d of d' of' (i + 1) >>= λ xs. Ok (x ∷ xs)) (step_read i (projected v d of d' of') (accepts of of' some some' agreed v parts.0))
        (λ x is. then_read (project_elements (map projected vs) d of d' of' (i + 1)) (λ xs. Ok (x ∷ xs)) rest (λ xs is. (x ∷ xs, refl)))

    list_read : (vs : List Value) (l l' : TyLayer) → PartsAre l → PartsAre l' → agree_by inner d d' l l' ≡ agree → fits_list (map told vs) d l ≡ true → IsRead (list_under (map projected vs) d l d' l')
    list_read vs (ty.Vector of) (ty.Vector of') some some' agreed fit =
        let parts = and_parts _ _ fit in
        let no_byte = flip (is_byte (out-Ty of)) (and_parts _ _ parts.0).0 in
        let all = sym (all_told d of vs) ∙ parts.1 in
        then_read (project_elements (map projected vs) d of d' of' 0) (λ xs. Ok (vector_of of' xs)) (elements_read of of' some some' (elements_are inner of of' no_byte agreed) 0 vs all) (λ xs is. (vector_of of' xs, refl))
      where
        flip : (b : Bool) → not b ≡ true → b ≡ false
        flip true e = absurd cc
        flip false e = refl
    list_read vs (ty.Vector of) _ some some' agreed fit = absurd cc
    list_read vs _ _ some some' agreed fit = absurd cc

    blob_read : (bytes : List ℕ) (l l' : TyLayer) → agree_by inner d d' l l' ≡ agree → fits_blob (length bytes) l ≡ true → IsRead (blob_as bytes l')
    blob_read bytes (ty.Vector of) (ty.Vector of') agreed fit =
        let byte = (and_parts _ _ fit).0 in
        (values.Blob bytes, rw (bytes_are inner of of' byte agreed) refl)
    blob_read bytes (ty.Vector of) _ agreed fit = absurd cc
    blob_read bytes _ _ agreed fit = absurd cc

    text_read : (bytes : List ℕ) (l l' : TyLayer) → agree_by inner d d' l l' ≡ agree → fits_text (length bytes) l ≡ true → IsRead (text_as bytes l')
    text_read bytes ty.Text ty.Text agreed fit = (values.Text bytes, refl)
    text_read bytes ty.Text _ agreed fit = absurd cc
    text_read bytes _ _ agreed fit = absurd cc

    -- ---- maps

    key_read : (key key' : Ty) → IsSome key → IsSome key' → inner key key' ≡ agree → is_key (out-Ty key) ≡ true → is_key (out-Ty key') ≡ true → (p : Pair) → (told (out-Pair p).key).fits d key ≡ true → (entries : List Pair) → all_below (entry_key p) entries ≡ true
        → (x : Value) × ((projected (out-Pair p).key d key d' key' >>= new_key entries) ≡ Ok x) × (key_of (out-Value x) ≡ entry_key p)
    key_read key key' some some' agreed is_old is_new p fit entries below =
        let k = (out-Pair p).key in
        let r = accepts key key' some some' agreed k fit in
        let same = key_stays d key is_old d' key' is_new k fit r.0 r.1 ∙ sym (entry_key_is p) in
        (r.0, ap (λ r. r >>= new_key entries) r.1 ∙ new_key_is entries r.0 (entry_key p) same below, same)

    entries_read : (key to key' to' : Ty) → IsSome key → IsSome to → IsSome key' → IsSome to' → inner key key' ≡ agree → inner to to' ≡ agree → is_key (out-Ty key) ≡ true → is_key (out-Ty key') ≡ true
        → (i : ℕ) (entries ps : List Pair) → list_all (entry_fits d key to) ps ≡ true → keys_rise (map entry_key ps) ≡ true → BelowFirst entries ps → IsRead (project_entries (map projected_entry ps) d key to d' key' to' i entries)
    entries_read key to key' to' some_key some_to some_key' some_to' key_agrees to_agrees is_old is_new i entries [] fit rise below = (entries, refl)
    entries_read key to key' to' some_key some_to some_key' some_to' key_agrees to_agrees is_old is_new i entries (p ∷ ps) fit rise below =
        let parts = and_parts (entry_fits d key to p) (list_all (entry_fits d key to) ps) fit in
        let own = and_parts _ _ (sym (entry_fits_is d key to p) ∙ parts.0) in
        let rises = rises_after (entry_key p) (map entry_key ps) rise in
        let k = key_read key key' some_key some_key' key_agrees is_old is_new p own.0 entries below in
        let key_is : (projected_entry p).0 d key d' key' ≡ projected (out-Pair p).key d key d' key' = ap (λ (w : Projecting × Projecting). w.0 d key d' key') (projected_entry_out p) in
        let key_said : ((projected_entry p).0 d key d' key' >>= new_key entries) ≡ Ok k.0 = ap (λ r. r >>= new_key entries) key_is ∙ k.1 in
        let to_is : (projected_entry p).1 d to d' to' ≡ projected (out-Pair p).value d to d' to' = ap (λ (w : Projecting × Projecting). w.1 d to d' to') (projected_entry_out p) in
        let v = accepts to to' some_to some_to' to_agrees (out-Pair p).value own.1 in
        let to_said : (projected_entry p).1 d to d' to' ≡ Ok v.0 = to_is ∙ v.1 in
        let rest = entries_read key to key' to' some_key some_to some_key' some_to' key_agrees to_agrees is_old is_new (i + 1) (add_entry (entry k.0 v.0) entries) ps parts.1 rises.1 (below_next (entry_key p) entries k.0 v.0 ps k.2 below rises.0) in (
          rest.0,
          ap (λ r. in_step (2 * i) r >>= λ x. in_step (2 * i + 1) ((projected_entry p).1 d to d' to') >>= λ y. project_entries (map projected_entry ps) d key to d' key' to' (i + 1) (add_entry (entry x y) entries)) key_said
              ∙ (ap (λ r. in_step (2 * i + 1) r >>= λ y. project_entries (map projected_entry ps) d key to d' key' to' (i + 1) (add_entry (entry k.0 y) entries)) to_said ∙ rest.1),
        )

    map_read : (ps : List Pair) (l l' : TyLayer) → PartsAre l → PartsAre l' → agree_by inner d d' l l' ≡ agree → fits_map (map told_entry ps) d l ≡ true → IsRead (map_under (map projected_entry ps) d l d' l')
    map_read ps (ty.Map key to) (ty.Map key' to') some some' agreed fit =
        let parts = and_parts _ _ fit in
        let rise : keys_rise (map entry_key ps) ≡ true = ap keys_rise (sym (entry_keys ps)) ∙ (and_parts _ _ parts.0).1 in
        let all = sym (all_entries d key to ps) ∙ parts.1 in
        let agreements = both_agree (at_step 0 (inner key key')) (at_step 1 (inner to to')) agreed in
        then_read (project_entries (map projected_entry ps) d key to d' key' to' 0 []) (λ qs. Ok (values.Map qs))
        (entries_read key to key' to' some.1 some.2 some'.1 some'.2 (step_agrees 0 (inner key key') agreements.0) (step_agrees 1 (inner to to') agreements.1) some.0 some'.0 0 [] ps all rise (nothing_before ps))
        (λ qs is. (values.Map qs, refl))
      where
        nothing_before : (ps : List Pair) → BelowFirst [] ps
        nothing_before [] = tt
        nothing_before (p ∷ ps) = refl
    map_read ps (ty.Map key to) _ some some' agreed fit = absurd cc
    map_read ps _ _ some some' agreed fit = absurd cc

    -- ---- structs

    -- an old member and what its value says, or neither
    abbrev HeldAs : Option Member → Option (Ty → Read Value) → Type 0
    HeldAs None None = Unit {0}
    HeldAs (Some m) (Some says) = (t' : Ty) → IsSome t' → inner m.ty t' ≡ agree → IsRead (says t')
    HeldAs _ _ = ⊥

    held_either : (b : Bool) (m : Member) (says : Ty → Read Value) (o : Option Member) (s : Option (Ty → Read Value)) → HeldAs (Some m) (Some says) → HeldAs o s → HeldAs (cond b (Some m) o) (cond b (Some says) s)
    held_either true m says o s here later = here
    held_either false m says o s here later = later

    held_with : (tag : ℕ) (ms : List Member) (vs : List Value) → AreSome ms → fit_told d ms (map told vs) ≡ true → HeldAs (member_with tag ms) (said_under tag (held d ms (map projected vs) d'))
    held_with tag [] [] some fit = tt
    held_with tag [] (v ∷ vs) some fit = absurd cc
    held_with tag (m ∷ ms) [] some fit = absurd cc
    held_with tag (m ∷ ms) (v ∷ vs) some fit =
        let parts = and_parts ((told v).fits d m.ty) (fit_told d ms (map told vs)) fit in
        held_either (eqb m.tag tag) m (λ t'. projected v d m.ty d' t') (member_with tag ms) (said_under tag (held d ms (map projected vs) d'))
        (λ t' some' agreed. accepts m.ty t' some.0 some' agreed v parts.0) (held_with tag ms vs some.1 parts.1)

    member_read : (m' : Member) → IsSome m'.ty → (o : Option Member) (s : Option (Ty → Read Value)) → HeldAs o s → member_agrees inner o m' ≡ agree → IsRead (member_of m' s)
    member_read m' some' None None held agreed = by_test m'.require agreed
      where
        by_test : (b : Bool) → cond b (differ (record { kind = Missing; steps = m'.tag ∷ [] })) agree ≡ agree → IsRead {X = Value} (cond b (Err (refusal.Missing (m'.tag ∷ []))) (Ok m'.default))
        by_test true e = absurd cc
        by_test false e = (m'.default, refl)
    member_read m' some' None (Some says) held agreed = absurd held
    member_read m' some' (Some m) None held agreed = absurd held
    member_read m' some' (Some m) (Some says) held agreed = step_read m'.tag (says m'.ty) (held m'.ty some' (step_agrees m'.tag (inner m.ty m'.ty) agreed))

    members_read : (ms : List Member) (vs : List Value) (ms' : List Member) → AreSome ms → AreSome ms' → fit_told d ms (map told vs) ≡ true → members_agree inner ms ms' ≡ agree → IsRead (members_of ms' (held d ms (map projected vs) d'))
    members_read ms vs [] some some' fit agreed = ([], refl)
    members_read ms vs (m' ∷ ms') some some' fit agreed =
        let agreements = both_agree (member_agrees inner (member_with m'.tag ms) m') (members_agree inner ms ms') agreed in
        let said = held d ms (map projected vs) d' in
        let own = member_read m' some'.0 (member_with m'.tag ms) (said_under m'.tag said) (held_with m'.tag ms vs some fit) agreements.0 in
        let rest = members_read ms vs ms' some some'.1 fit agreements.1 in
        then_read (member_of m' (said_under m'.tag said)) (λ x. members_of ms' said >>= λ xs. Ok (x ∷ xs)) own (λ x is. then_read (members_of ms' said) (λ xs. Ok (x ∷ xs)) rest (λ xs is. (x ∷ xs, refl)))

    struct_read : ((k : ℕ) → AreSome (members_at d k)) → ((k : ℕ) → AreSome (members_at d' k)) → (vs : List Value) (l l' : TyLayer) → agree_by inner d d' l l' ≡ agree → fits_struct (map told vs) d l ≡ true → IsRead (struct_under (map projected vs) d l d' l')
    struct_read some some' vs (ty.Struct number) (ty.Struct number') agreed fit =
        then_read (members_of (members_at d' number') (held d (members_at d number) (map projected vs) d')) (λ xs. Ok (values.Struct xs))
        (members_read (members_at d number) vs (members_at d' number') (some number) (some' number') fit agreed) (λ xs is. (values.Struct xs, refl))
    struct_read some some' vs (ty.Struct number) _ agreed fit = absurd cc
    struct_read some some' vs _ _ agreed fit = absurd cc

    -- ---- numbers

    numbers_are : (l l' : TyLayer) (n : ℤ) → Within (numbers_of l) n → agree_by inner d d' l l' ≡ agree → numbers_agree l l' ≡ agree
    numbers_are ty.Bool l' n within agreed = agreed
    numbers_are ty.Byte l' n within agreed = agreed
    numbers_are ty.Short l' n within agreed = agreed
    numbers_are ty.Int l' n within agreed = agreed
    numbers_are ty.Long l' n within agreed = agreed
    numbers_are ty.UByte l' n within agreed = agreed
    numbers_are ty.UShort l' n within agreed = agreed
    numbers_are ty.UInt l' n within agreed = agreed
    numbers_are (ty.Enum k) l' n within agreed = agreed
    numbers_are ty.Text l' n within agreed = absurd within
    numbers_are (ty.Struct k) l' n within agreed = absurd within
    numbers_are (ty.Vector of) l' n within agreed = absurd within
    numbers_are (ty.Map key to) l' n within agreed = absurd within

    number_read : (l l' : TyLayer) (n : ℤ) → Within (numbers_of l) n → agree_by inner d d' l l' ≡ agree → IsRead (number_under n l')
    number_read l l' n within agreed = (number_value l' n, number_stays l l' n (numbers_are l l' n within agreed) within)

    bool_read : (l l' : TyLayer) (b : Bool) → is_bool l ≡ true → agree_by inner d d' l l' ≡ agree → IsRead (number_under (bool_number b) l')
    bool_read ty.Bool l' b fit agreed = number_read ty.Bool l' (bool_number b) (bool_within b) agreed
    bool_read _ l' b fit agreed = absurd cc

    -- ---- any value

    value_read : ((k : ℕ) → AreSome (members_at d k)) → ((k : ℕ) → AreSome (members_at d' k)) → Accepts (λ t t'. agree_by inner d d' (out-Ty t) (out-Ty t'))
    value_read old new t t' (enums, structs, type) (enums', structs', type') agreed v = each_value (λ v. fits d t v ≡ true → IsRead (projected v d t d' t')) (record {
      bool = λ b fit. moved_read _ _ (bool_projected d t d' t' b) (bool_read (out-Ty t) (out-Ty t') b (sym (told_fits_bool (values.Bool b) d t b refl) ∙ fit) agreed);
      num = λ n fit. moved_read _ _ (num_projected d t d' t' n) (number_read (out-Ty t) (out-Ty t') n (number_within (out-Ty t) n (sym (told_fits_num (values.Num n) d t n refl) ∙ fit)) agreed);
      text = λ bytes fit. moved_read _ _ (text_projected d t d' t' bytes) (text_read bytes (out-Ty t) (out-Ty t') agreed (sym (told_fits_text (values.Text bytes) d t bytes refl) ∙ fit));
      blob = λ bytes fit. moved_read _ _ (blob_projected d t d' t' bytes) (blob_read bytes (out-Ty t) (out-Ty t') agreed (sym (told_fits_blob (values.Blob bytes) d t bytes refl) ∙ fit));
      list = λ vs inside fit. moved_read _ _ (list_projected d t d' t' vs) (list_read vs (out-Ty t) (out-Ty t') (parts_are (out-Ty t) refl type) (parts_are (out-Ty t') refl type') agreed (sym (told_fits_list (values.List vs) d t vs refl) ∙ fit));
      pairs = λ ps inside fit. moved_read _ _ (map_projected d t d' t' ps) (map_read ps (out-Ty t) (out-Ty t') (parts_are (out-Ty t) refl type) (parts_are (out-Ty t') refl type') agreed (sym (told_fits_map (values.Map ps) d t ps refl) ∙ fit));
      struct = λ vs inside fit. moved_read _ _ (struct_projected d t d' t' vs) (struct_read old new vs (out-Ty t) (out-Ty t') agreed (sym (told_fits_struct (values.Struct vs) d t vs refl) ∙ fit));
    }) v

  module _ (old : (k : ℕ) → AreSome (members_at d k)) (new : (k : ℕ) → AreSome (members_at d' k)) where
    accepts_within : (levels : ℕ) → Accepts (agree_within levels d d')
    unfolding agree_within
    accepts_within zero t t' some some' agreed v fit = absurd cc
    accepts_within (suc levels) t t' some some' agreed v fit = value_read (agree_within levels d d') (accepts_within levels) old new t t' some some' agreed v fit

    accepts_all : (ms : List Member) (vs : List Value) (ms' : List Member) → AreSome ms → AreSome ms' → fit_members d ms vs ≡ true → versions_agree d ms d' ms' ≡ agree → IsRead (project_members d ms vs d' ms')
    unfolding project_members
    accepts_all ms vs ms' some some' fit agreed = members_read (agrees d d') (accepts_within MAX_LEVELS) ms vs ms' some some' fit agreed

-- ---- of versions

some_types : (d : Declared) (ms : List Member) → All (λ (m : Member). IsSome m.ty) ms → AreSome ms
some_types d [] all = tt
some_types d (m ∷ ms) all = (All-head (λ (m : Member). IsSome m.ty) m ms all, some_types d ms (All-tail (λ (m : Member). IsSome m.ty) m ms all))

struct_types : {d : Declared} → IsSchema d → (k : ℕ) → AreSome (members_at d k)
struct_types {d} schema k = some_types d (members_at d k) (λ i m within. let p = all_placed schema k i m within in (p.over.0, k, p.over.1))

version_types : (d : Declared) (ms : List Member) → IsVersion d ms → AreSome ms
version_types d ms version = some_types d ms (λ i m within. (length d.enums, length d.structs, (version.types i m within).is_type))

pub no_value_is_refused : (d d' : Declared) (ms ms' : List Member) (vs : List Value) → IsSchema d → IsSchema d' → IsVersion d ms → IsVersion d' ms' → versions_agree d ms d' ms' ≡ agree → fit_members d ms vs ≡ true → IsOk (project_members d ms vs d' ms')
no_value_is_refused d d' ms ms' vs schema schema' version version' agreed fit =
    let read = accepts_all d d' (struct_types schema) (struct_types schema') ms vs ms' (version_types d ms version) (version_types d' ms' version') fit agreed in
    ap is_ok read.1
