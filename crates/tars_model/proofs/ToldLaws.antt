-- What is told of a value of each kind.
use Rattle.std.proofs.Common.{◌≡◌, ◌&&◌, ◌<◌, ◌≤◌, ◌+◌, get_or, drop, sym, suc, true, false, Bool, ℤ, ℕ, List, [], ◌∷◌, length, map, refl, ap, ◌∙◌}
use Rattle.std.specs.List.{list_all}
use Rattle.std.proofs.lemmas.List.{length-map, drop_more, drop_all}
use Rattle.std.proofs.lemmas.List.Folds.{list_all-map}
use Rattle.tars_model.specs.Declarations.{Declared}
use Rattle.tars_model.specs.Values.{Told, told_layer, told_pair, told, told_entry, entry_key, entry_fits, elements_fit, pairs_fit, fit_told, key_of, is_bool, is_number_of, fits_text, fits_blob, fits_list, fits_map, fits_struct}
use Rattle.tars_model.specs.declared.member.Member.{Member}
use Rattle.tars_model.specs.declared.ty.Ty.{Ty, out-Ty}
use Rattle.tars_model.specs.declared.ty.Ty.TheVariants as types
use Rattle.tars_model.specs.declared.ty.Ty.TheVariants.{outs-Vector, outs-Map}
use Rattle.tars_model.specs.declared.value.Pair.{Pair, out-Pair, fold_out-Pair}
use Rattle.tars_model.specs.declared.value.Value.{Value, out-Value, map-Value, fold_out-Value}
use Rattle.tars_model.specs.declared.value.Value.TheOpen as value
use Rattle.tars_model.specs.declared.value.Value.TheVariants as values
use Rattle.tars_model.specs.declared.value.Value.TheVariants.{outs-Bool, outs-Num, outs-Text, outs-Blob, outs-List, outs-Map as outs-Pairs, outs-Struct}

abbrev told_of_layer : value.Value-F Value Pair → Told
told_of_layer l = told_layer (map-Value Value Pair Told (Told × Told) told told_entry l)

pub told_out : (v : Value) → told v ≡ told_of_layer (out-Value v)
unfolding told told_entry
told_out v = fold_out-Value Told (Told × Told) told_layer told_pair v

told_at : (v : Value) (l : value.Value-F Value Pair) → out-Value v ≡ l → told v ≡ told_of_layer l
told_at v l e = told_out v ∙ ap told_of_layer e

pub told_entry_out : (p : Pair) → told_entry p ≡ (told (out-Pair p).key, told (out-Pair p).value)
unfolding told told_entry
told_entry_out p = fold_out-Pair Told (Told × Told) told_layer told_pair p

module _ (v : Value) (d : Declared) (t : Ty) where
  fits_at : (l : value.Value-F Value Pair) → out-Value v ≡ l → (told v).fits d t ≡ (told_of_layer l).fits d t
  fits_at l e = ap (λ (w : Told). w.fits d t) (told_at v l e)

  pub told_fits_bool : (b : Bool) → v ≡ values.Bool b → (told v).fits d t ≡ is_bool (out-Ty t)
  told_fits_bool b is = fits_at (value.Bool b) (ap out-Value is ∙ outs-Bool b)

  pub told_fits_num : (n : ℤ) → v ≡ values.Num n → (told v).fits d t ≡ is_number_of (out-Ty t) n
  told_fits_num n is = fits_at (value.Num n) (ap out-Value is ∙ outs-Num n)

  pub told_fits_text : (bytes : List ℕ) → v ≡ values.Text bytes → (told v).fits d t ≡ fits_text (length bytes) (out-Ty t)
  told_fits_text bytes is = fits_at (value.Text bytes) (ap out-Value is ∙ outs-Text bytes)

  pub told_fits_blob : (bytes : List ℕ) → v ≡ values.Blob bytes → (told v).fits d t ≡ fits_blob (length bytes) (out-Ty t)
  told_fits_blob bytes is = fits_at (value.Blob bytes) (ap out-Value is ∙ outs-Blob bytes)

  pub told_fits_list : (vs : List Value) → v ≡ values.List vs → (told v).fits d t ≡ fits_list (map told vs) d (out-Ty t)
  told_fits_list vs is = fits_at (value.List vs) (ap out-Value is ∙ outs-List vs)

  pub told_fits_map : (ps : List Pair) → v ≡ values.Map ps → (told v).fits d t ≡ fits_map (map told_entry ps) d (out-Ty t)
  told_fits_map ps is = fits_at (value.Map ps) (ap out-Value is ∙ outs-Pairs ps)

  pub told_fits_struct : (vs : List Value) → v ≡ values.Struct vs → (told v).fits d t ≡ fits_struct (map told vs) d (out-Ty t)
  told_fits_struct vs is = fits_at (value.Struct vs) (ap out-Value is ∙ outs-Struct vs)

key_kept : {V W P Q : Type 0} (f : V → W) (g : P → Q) (l : value.Value-F V P) → key_of (map-Value V P W Q f g l) ≡ key_of l
key_kept f g (value.Bool b) = refl
key_kept f g (value.Num n) = refl
key_kept f g (value.Text bytes) = refl
key_kept f g (value.Blob bytes) = refl
key_kept f g (value.List vs) = refl
key_kept f g (value.Map ps) = refl
key_kept f g (value.Struct vs) = refl

pub told_key : (v : Value) → (told v).key ≡ key_of (out-Value v)
told_key v = ap (λ (w : Told). w.key) (told_out v) ∙ key_kept told told_entry (out-Value v)

pub entry_key_is : (p : Pair) → (told_entry p).0.key ≡ key_of (out-Value (out-Pair p).key)
entry_key_is p = ap (λ (w : Told × Told). w.0.key) (told_entry_out p) ∙ told_key (out-Pair p).key

pub entry_fits_is : (d : Declared) (key to : Ty) (p : Pair) → entry_fits d key to p ≡ ((told (out-Pair p).key).fits d key && (told (out-Pair p).value).fits d to)
entry_fits_is d key to p = ap (λ (w : Told × Told). w.0.fits d key && w.1.fits d to) (told_entry_out p)

pub all_told : (d : Declared) (t : Ty) (vs : List Value) → list_all (λ v. v.fits d t) (map told vs) ≡ list_all (λ v. (told v).fits d t) vs
all_told d t vs = list_all-map (λ (v : Told). v.fits d t) told vs

pub all_entries : (d : Declared) (key to : Ty) (ps : List Pair) → list_all (λ p. p.0.fits d key && p.1.fits d to) (map told_entry ps) ≡ list_all (entry_fits d key to) ps
all_entries d key to ps = list_all-map (λ (p : Told × Told). p.0.fits d key && p.1.fits d to) told_entry ps

pub entry_keys : (ps : List Pair) → map (λ (p : Told × Told). p.0.key) (map told_entry ps) ≡ map entry_key ps
entry_keys [] = refl
entry_keys (p ∷ ps) = ap (λ ks. entry_key p ∷ ks) (entry_keys ps)

-- a list of values of which it is told so, and the values themselves
pub list_told : (d : Declared) (t of : Ty) (vs : List Value) → t ≡ types.Vector of → fits_list (map told vs) d (out-Ty t) ≡ elements_fit d of vs
list_told d t of vs is = ap (fits_list (map told vs) d) (ap out-Ty is ∙ outs-Vector of) ∙ rw (length-map vs told, all_told d of vs) refl

pub map_told : (d : Declared) (t key to : Ty) (ps : List Pair) → t ≡ types.Map key to → fits_map (map told_entry ps) d (out-Ty t) ≡ pairs_fit d key to ps
map_told d t key to ps is = ap (fits_map (map told_entry ps) d) (ap out-Ty is ∙ outs-Map key to) ∙ rw (length-map ps told_entry, entry_keys ps, all_entries d key to ps) refl

pub other_length : (d : Declared) (ms : List Member) (vs : List Told) → (length vs ≡ length ms → ⊥) → fit_told d ms vs ≡ false
other_length d [] [] other = absurd (other refl)
other_length d [] (v ∷ vs) other = refl
other_length d (m ∷ ms) [] other = refl
other_length d (m ∷ ms) (v ∷ vs) other = rw (other_length d ms vs (λ same. other (ap suc same))) (by_test (v.fits d m.ty))
  where
    by_test : (b : Bool) → (b && false) ≡ false
    by_test true = refl
    by_test false = refl

-- ---- values under members, one after the other

fit_left : (d : Declared) (ms : List Member) (vs : List Value) (k : ℕ) (m : Member) (v : Value) → k < length ms → k < length vs → m ≡ get_or ms k m → v ≡ get_or vs k v
    → fit_told d (drop k ms) (map told (drop k vs)) ≡ ((told v).fits d m.ty && fit_told d (drop (k + 1) ms) (map told (drop (k + 1) vs)))
fit_left d ms vs k m v in_ms in_vs is_m is_v =
    rw (drop_more ms k m in_ms ∙ ap (λ x. x ∷ drop (k + 1) ms) (sym is_m), drop_more vs k v in_vs ∙ ap (λ x. x ∷ drop (k + 1) vs) (sym is_v)) refl

pub fit_fails : (d : Declared) (ms : List Member) (vs : List Value) (k : ℕ) (m : Member) (v : Value) (all : Bool) → k < length ms → k < length vs → m ≡ get_or ms k m → v ≡ get_or vs k v
    → (told v).fits d m.ty ≡ false → fit_told d (drop k ms) (map told (drop k vs)) ≡ all → all ≡ false
fit_fails d ms vs k m v all in_ms in_vs is_m is_v fails so_far = sym so_far ∙ fit_left d ms vs k m v in_ms in_vs is_m is_v ∙ rw fails refl

pub fit_goes_on : (d : Declared) (ms : List Member) (vs : List Value) (k : ℕ) (m : Member) (v : Value) (all : Bool) → k < length ms → k < length vs → m ≡ get_or ms k m → v ≡ get_or vs k v
    → (told v).fits d m.ty ≡ true → fit_told d (drop k ms) (map told (drop k vs)) ≡ all → fit_told d (drop (k + 1) ms) (map told (drop (k + 1) vs)) ≡ all
fit_goes_on d ms vs k m v all in_ms in_vs is_m is_v passes so_far = sym (fit_left d ms vs k m v in_ms in_vs is_m is_v ∙ rw passes refl) ∙ so_far

pub fit_ends : (d : Declared) (ms : List Member) (vs : List Value) (k : ℕ) (all : Bool) → length ms ≤ k → length vs ≤ k → fit_told d (drop k ms) (map told (drop k vs)) ≡ all → all ≡ true
fit_ends d ms vs k all past_ms past_vs so_far = sym so_far ∙ rw (drop_all k ms past_ms, drop_all k vs past_vs) refl

pub other_count : (d : Declared) (ms : List Member) (vs : List Value) → (length vs ≡ length ms → ⊥) → false ≡ fit_told d ms (map told vs)
other_count d ms vs other = sym (other_length d ms (map told vs) (λ same. other (sym (length-map vs told) ∙ same)))
