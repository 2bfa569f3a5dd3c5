-- Texts, lists, maps and structs fit, where what is inside them does.
use Rattle.std.proofs.Common.{◌≡◌, ◌<◌, ◌^◌, ◌+◌, ◌*◌, ℕ, suc, Bool, true, false, cond, ◌&&◌, List, [], ◌∷◌, length, map, Option, Some, None, Ok, Err, refl, sym, ap, ◌∙◌, subst, arith}
use Rattle.std.specs.List.{All, list_any, list_all}
use Rattle.std.specs.Int.{w8, w16, w32, from_be_bytes}
use Rattle.std.proofs.lemmas.Bool.{lt-ltb, and_parts}
use Rattle.std.proofs.lemmas.List.{length-map}
use Rattle.std.proofs.lemmas.List.Elements.{All-tail}
use Rattle.facts.specs.ResultSteps.{◌>>=◌}
use Rattle.facts.proofs.ResultLaws.{bind_gave}
use Rattle.wire_words.specs.Tree.{WireNumber}
use Rattle.tars_model.specs.Declarations.{Declared, members_at}
use Rattle.tars_model.specs.Types.{TyLayer}
use Rattle.tars_model.specs.Values.{Told, told, told_entry, is_byte, key_of, keys_rise, entry_key, entry_fits, elements_fit, pairs_fit, fit_told, fits_text, fits_blob, fits_list, fits_map, fits_struct}
use Rattle.tars_model.specs.declared.member.Member.{Member}
use Rattle.tars_model.specs.declared.ty.Ty.{Ty, out-Ty}
use Rattle.tars_model.specs.declared.ty.Ty.TheOpen as ty
use Rattle.tars_model.specs.declared.value.Value.{Value, out-Value}
use Rattle.tars_model.specs.declared.value.Value.TheVariants as values
use Rattle.tars_model.specs.declared.value.Pair.{Pair}
use Rattle.tars_model.proofs.ToldLaws.{told_fits_text, told_fits_blob, told_fits_list, told_fits_map, told_fits_struct, all_told, all_entries, entry_keys, entry_fits_is}
use Rattle.tars_wire.specs.declared.wire_type.WireType.{WireType}
use Rattle.tars_wire.specs.Spelled.{Number, is_zero_tag, is_int1, is_int2, is_int4, is_int8, IsSize, Size}
use Rattle.tars_wire.proofs.Machine.Counts.{positive}
use Rattle.tars_decode.specs.declared.halt.Refusal.TheVariants.{Missing}
use Rattle.tars_decode.specs.declared.refuse.Misfit.TheVariants.{WrongType, TwiceKey}
use Rattle.tars_decode.specs.Decoding.{DefaultFits}
use Rattle.tars_decode.specs.Reads.{Read, in_step, misfit, text_as, blob_as, list_as, vector_of, byte_of, map_as, struct_as, same_key, new_key, entry, add_entry, Saying, said_under, member_of, members_of}
use Rattle.tars_decode.proofs.EntryLaws.{key_of_entry, add_rises}

abbrev ok : {X : Type 0} → X → Read X
ok x = Ok x

pub ok_is : {X : Type 0} (x y : X) → ok x ≡ ok y → x ≡ y
ok_is x y e = cc

pub step_gave : {X : Type 0} (step : ℕ) (read : Read X) (x : X) → in_step step read ≡ Ok x → read ≡ Ok x
step_gave step (Ok y) x e = e
step_gave step (Err refusal) x e = absurd cc

-- a size is below 2 ^ 31
number_size : {type : WireType} {number : WireNumber} {w rest : List ℕ} (n : ℕ) → Number type number w rest → IsSize number n → n < 2 ^ 31
number_size n is_zero_tag e = omega arith
number_size n (is_int1 {bytes = bytes} bs f) e = let p = positive w8 (from_be_bytes w8 bytes) n e in omega arith
number_size n (is_int2 {bytes = bytes} bs f) e = let p = positive w16 (from_be_bytes w16 bytes) n e in omega arith
number_size n (is_int4 {bytes = bytes} bs f) e = let p = positive w32 (from_be_bytes w32 bytes) n e in omega arith
number_size n (is_int8 bs f) e = absurd e

pub size_short : {n : ℕ} {w rest : List ℕ} → Size n w rest → n < 2 ^ 31
size_short {n} s = number_size n s.contents s.size

-- ---- texts and simple lists

module _ (d : Declared) (t : Ty) (x : Value) where
  pub text_fits : (bytes : List ℕ) → length bytes < 2 ^ 32 → text_as bytes (out-Ty t) ≡ Ok x → (told x).fits d t ≡ true
  text_fits bytes short e = go (out-Ty t) refl e
    where
      go : (l : TyLayer) → out-Ty t ≡ l → text_as bytes l ≡ Ok x → (told x).fits d t ≡ true
      go ty.Text is e = told_fits_text x d t bytes (sym (ok_is (values.Text bytes) x e)) ∙ (ap (fits_text (length bytes)) is ∙ lt-ltb (length bytes) (2 ^ 32) short)
      go _ is e = absurd cc

  blob_is : (bytes : List ℕ) (of : Ty) → length bytes < 2 ^ 31 → out-Ty t ≡ ty.Vector of → is_byte (out-Ty of) ≡ true → values.Blob bytes ≡ x → (told x).fits d t ≡ true
  blob_is bytes of short is byte e =
      told_fits_blob x d t bytes (sym e) ∙ (ap (fits_blob (length bytes)) is ∙ rw (byte, lt-ltb (length bytes) (2 ^ 31) short) refl)

  pub blob_fits : (bytes : List ℕ) → length bytes < 2 ^ 31 → blob_as bytes (out-Ty t) ≡ Ok x → (told x).fits d t ≡ true
  blob_fits bytes short e = go (out-Ty t) refl e
    where
      chosen : (b : Bool) → cond b (ok (values.Blob bytes)) (misfit WrongType) ≡ Ok x → (b ≡ true) × (values.Blob bytes ≡ x)
      chosen true e = (refl, ok_is (values.Blob bytes) x e)
      chosen false e = absurd cc

      go : (l : TyLayer) → out-Ty t ≡ l → blob_as bytes l ≡ Ok x → (told x).fits d t ≡ true
      go (ty.Vector of) is e = let h = chosen (is_byte (out-Ty of)) e in blob_is bytes of short is h.0 h.1
      go _ is e = absurd cc

  -- ---- lists

  list_is : (of : Ty) (vs : List Value) → length vs < 2 ^ 31 → list_all (λ v. (told v).fits d of) vs ≡ true → out-Ty t ≡ ty.Vector of → (b : Bool) → is_byte (out-Ty of) ≡ b → cond b (values.Blob (map (λ v. byte_of (out-Value v)) vs)) (values.List vs) ≡ x → (told x).fits d t ≡ true
  list_is of vs short all is true byte e =
      blob_is (map (λ v. byte_of (out-Value v)) vs) of (rw (length-map vs (λ v. byte_of (out-Value v))) short) is byte e
  list_is of vs short all is false byte e =
      told_fits_list x d t vs (sym e) ∙ (ap (fits_list (map told vs) d) is ∙ rw (byte, length-map vs told, lt-ltb (length vs) (2 ^ 31) short, all_told d of vs, all) refl)

  pub list_fits : (elements : Ty → Read (List Value)) → ((of : Ty) (vs : List Value) → elements of ≡ Ok vs → (length vs < 2 ^ 31) × (list_all (λ v. (told v).fits d of) vs ≡ true)) → list_as elements (out-Ty t) ≡ Ok x → (told x).fits d t ≡ true
  list_fits elements each e = go (out-Ty t) refl e
    where
      go : (l : TyLayer) → out-Ty t ≡ l → list_as elements l ≡ Ok x → (told x).fits d t ≡ true
      go (ty.Vector of) is e =
          let g = bind_gave (elements of) (λ vs. Ok (vector_of of vs)) x e in
          let h = each of g.0 g.1 in
          list_is of g.0 h.0 h.1 is (is_byte (out-Ty of)) refl (ok_is (vector_of of g.0) x g.2)
      go _ is e = absurd cc

  -- ---- maps

  pub map_fits : (entries : Ty → Ty → Read (List Pair)) → ((key to : Ty) (ps : List Pair) → entries key to ≡ Ok ps → (length ps < 2 ^ 31) × (keys_rise (map entry_key ps) ≡ true) × (list_all (entry_fits d key to) ps ≡ true)) → map_as entries (out-Ty t) ≡ Ok x → (told x).fits d t ≡ true
  map_fits entries each e = go (out-Ty t) refl e
    where
      go : (l : TyLayer) → out-Ty t ≡ l → map_as entries l ≡ Ok x → (told x).fits d t ≡ true
      go (ty.Map key to) is e =
          let g = bind_gave (entries key to) (λ ps. Ok (values.Map ps)) x e in
          let h = each key to g.0 g.1 in
          told_fits_map x d t g.0 (sym (ok_is (values.Map g.0) x g.2)) ∙ (ap (fits_map (map told_entry g.0) d) is ∙ rw (length-map g.0 told_entry, lt-ltb (length g.0) (2 ^ 31) h.0, entry_keys g.0, h.1, all_entries d key to g.0, h.2) refl)
      go _ is e = absurd cc

  -- ---- structs

  pub struct_fits : (said : List Saying) → ((number : ℕ) (vs : List Value) → members_of (members_at d number) said ≡ Ok vs → fit_told d (members_at d number) (map told vs) ≡ true) → struct_as said d (out-Ty t) ≡ Ok x → (told x).fits d t ≡ true
  struct_fits said each e = go (out-Ty t) refl e
    where
      go : (l : TyLayer) → out-Ty t ≡ l → struct_as said d l ≡ Ok x → (told x).fits d t ≡ true
      go (ty.Struct number) is e =
          let g = bind_gave (members_of (members_at d number) said) (λ vs. Ok (values.Struct vs)) x e in
          told_fits_struct x d t g.0 (sym (ok_is (values.Struct g.0) x g.2)) ∙ (ap (fits_struct (map told g.0) d) is ∙ each number g.0 g.1)
      go _ is e = absurd cc

-- what is said under each tag is of the type under which it is said
abbrev pub SaidFits : Declared → List Saying → Type 0
SaidFits d said = (tag : ℕ) (f : Ty → Read Value) → said_under tag said ≡ Some f → (t : Ty) (x : Value) → f t ≡ Ok x → (told x).fits d t ≡ true

absent_fits : (d : Declared) (m : Member) (x : Value) (b : Bool) → m.require ≡ b → DefaultFits d m → cond b (Err (Missing (m.tag ∷ []))) (Ok m.default) ≡ ok x → (told x).fits d m.ty ≡ true
absent_fits d m x true is default e = absurd cc
absent_fits d m x false is default e = ap (λ v. (told v).fits d m.ty) (sym (ok_is m.default x e)) ∙ default is

member_fits : (d : Declared) (said : List Saying) (m : Member) (x : Value) (o : Option (Ty → Read Value)) → SaidFits d said → said_under m.tag said ≡ o → DefaultFits d m → member_of m o ≡ Ok x → (told x).fits d m.ty ≡ true
member_fits d said m x (Some f) fits is default e = fits m.tag f is m.ty x (step_gave m.tag (f m.ty) x e)
member_fits d said m x None fits is default e = absent_fits d m x m.require refl default e

pub members_fit : (d : Declared) (said : List Saying) (ms : List Member) (xs : List Value) → SaidFits d said → All (DefaultFits d) ms → members_of ms said ≡ Ok xs → fit_told d ms (map told xs) ≡ true
members_fit d said [] xs fits defaults e = ap (λ vs. fit_told d [] (map told vs)) (sym (ok_is [] xs e))
members_fit d said (m ∷ ms) xs fits defaults e =
    let g = bind_gave (member_of m (said_under m.tag said)) (λ x. members_of ms said >>= λ xs. Ok (x ∷ xs)) xs e in
    let h = bind_gave (members_of ms said) (λ xs. Ok (g.0 ∷ xs)) xs g.2 in
    let own : DefaultFits d m = defaults 0 m (omega arith) in
    let first = member_fits d said m g.0 (said_under m.tag said) fits refl own g.1 in
    let others = members_fit d said ms h.0 fits (All-tail (DefaultFits d) m ms defaults) h.1 in
    ap (λ vs. fit_told d (m ∷ ms) (map told vs)) (sym (ok_is (g.0 ∷ h.0) xs h.2)) ∙ rw (first, others) refl

-- ---- entries

pub entry_is : (d : Declared) (key to : Ty) (k v : Value) → (told k).fits d key ≡ true → (told v).fits d to ≡ true → entry_fits d key to (entry k v) ≡ true
entry_is d key to k v e f = entry_fits_is d key to (entry k v) ∙ rw (e, f) refl

and_true : (a b : Bool) → a ≡ true → b ≡ true → (a && b) ≡ true
and_true a b e f = rw (e, f) refl

pub add_all : (p : Pair → Bool) (x : Pair) (ps : List Pair) → p x ≡ true → list_all p ps ≡ true → list_all p (add_entry x ps) ≡ true
add_all p x [] e all = and_true (p x) true e refl
add_all p x (q ∷ qs) e all =
    let parts = and_parts (p q) (list_all p qs) all in
    go parts.0 (add_all p x qs e parts.1) (Rattle.tars_model.specs.Values.key_below (entry_key q) (entry_key x))
  where
    go : p q ≡ true → list_all p (add_entry x qs) ≡ true → (b : Bool) → list_all p (cond b (q ∷ add_entry x qs) (x ∷ q ∷ qs)) ≡ true
    go first later true = and_true (p q) _ first later
    go first later false = and_true (p x) _ e all

pub add_length : (x : Pair) (ps : List Pair) → length (add_entry x ps) ≡ suc (length ps)
add_length x [] = refl
add_length x (q ∷ qs) = go (add_length x qs) (Rattle.tars_model.specs.Values.key_below (entry_key q) (entry_key x))
  where
    go : length (add_entry x qs) ≡ suc (length qs) → (b : Bool) → length (cond b (q ∷ add_entry x qs) (x ∷ q ∷ qs)) ≡ suc (suc (length qs))
    go later true = ap suc later
    go later false = refl

new_is : (ps : List Pair) (k x : Value) → new_key ps k ≡ Ok x → (list_any (same_key (key_of (out-Value x))) (map entry_key ps) ≡ false) × (k ≡ x)
new_is ps k x e = go (list_any (same_key (key_of (out-Value k))) (map entry_key ps)) refl e
  where
    go : (b : Bool) → list_any (same_key (key_of (out-Value k))) (map entry_key ps) ≡ b → cond b (misfit TwiceKey) (Ok k) ≡ ok x → (list_any (same_key (key_of (out-Value x))) (map entry_key ps) ≡ false) × (k ≡ x)
    go true is e = absurd cc
    go false is e = let same = ok_is k x e in (ap (λ v. list_any (same_key (key_of (out-Value v))) (map entry_key ps)) (sym same) ∙ is, same)

-- entries so far: they rise and fit
pub record EntriesFit (d : Declared) (key to : Ty) (ps : List Pair) (size : ℕ) : Type 0 where
  pub rising : keys_rise (map entry_key ps) ≡ true
  pub fit : list_all (entry_fits d key to) ps ≡ true
  pub count : length ps ≡ size

pub one_entry : (d : Declared) (key to : Ty) (i : ℕ) (ps qs : List Pair) (size n : ℕ) (k v : Read Value) (says : List Pair → Read (List Pair)) → ((x : Value) → k ≡ Ok x → (told x).fits d key ≡ true) → ((x : Value) → v ≡ Ok x → (told x).fits d to ≡ true) → ((rs : List Pair) → EntriesFit d key to rs (suc size) → says rs ≡ Ok qs → EntriesFit d key to qs (n + suc size)) → EntriesFit d key to ps size
    → (in_step (2 * i) (k >>= new_key ps) >>= λ x. in_step (2 * i + 1) v >>= λ y. says (add_entry (entry x y) ps)) ≡ Ok qs → EntriesFit d key to qs (suc n + size)
one_entry d key to i ps qs size n k v says key_fits value_fits others so_far e =
    let g = bind_gave (in_step (2 * i) (k >>= new_key ps)) (λ x. in_step (2 * i + 1) v >>= λ y. says (add_entry (entry x y) ps)) qs e in
    let h = bind_gave (in_step (2 * i + 1) v) (λ y. says (add_entry (entry g.0 y) ps)) qs g.2 in
    let key_read = bind_gave k (new_key ps) g.0 (step_gave (2 * i) (k >>= new_key ps) g.0 g.1) in
    let new = new_is ps key_read.0 g.0 key_read.2 in
    let fit_key = key_fits g.0 (key_read.1 ∙ ap ok new.1) in
    let fit_value = value_fits h.0 (step_gave (2 * i + 1) v h.0 h.1) in
    let absent : list_any (same_key (entry_key (entry g.0 h.0))) (map entry_key ps) ≡ false = ap (λ c. list_any (same_key c) (map entry_key ps)) (key_of_entry g.0 h.0) ∙ new.0 in
    let added : EntriesFit d key to (add_entry (entry g.0 h.0) ps) (suc size) = record {
      rising = add_rises (entry g.0 h.0) ps absent so_far.rising;
      fit = add_all (entry_fits d key to) (entry g.0 h.0) ps (entry_is d key to g.0 h.0 fit_key fit_value) so_far.fit;
      count = add_length (entry g.0 h.0) ps ∙ ap suc so_far.count;
    } in
    let sum : n + suc size ≡ suc n + size = omega arith in
    subst (λ c. EntriesFit d key to qs c) sum (others (add_entry (entry g.0 h.0) ps) added h.2)
