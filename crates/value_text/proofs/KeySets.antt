-- Keys that a map has: those of its entries in any order.
use Rattle.std.proofs.Common.{◌≡◌, ◌⊎◌, inl, inr, ℕ, zero, suc, ℤ, pos, Bool, true, false, cond, Option, Some, None, List, [], ◌∷◌, ◌++◌, map, refl, sym, ap, ◌∙◌, subst, arith}
use Rattle.std.proofs.lemmas.Bool.{and_parts}
use Rattle.std.proofs.lemmas.List.{map-append}
use Rattle.std.proofs.lemmas.List.Elements.{All-contains, All-from_recursion, Contains-append_left, Contains-append_right, Contains-append_cases}
use Rattle.std.specs.List.{Contains, AllByRecursion}
use Rattle.tars_model.specs.Declarations.{Declared}
use Rattle.tars_model.specs.Types.{TyLayer}
use Rattle.tars_model.specs.Values.{Key, a_number, a_text, no_key, key_of, key_below, keys_rise, entry_key, is_number_of}
use Rattle.tars_model.specs.declared.ty.Ty.{Ty, out-Ty}
use Rattle.tars_model.specs.declared.ty.Ty.TheOpen as ty
use Rattle.tars_model.specs.declared.value.Pair.{Pair}
use Rattle.tars_model.specs.declared.value.Value.{Value, out-Value}
use Rattle.tars_model.specs.declared.value.Value.TheOpen as value
use Rattle.tars_model.specs.declared.value.Value.TheVariants.{outs-Bool, outs-Num, outs-Text, outs-Blob, outs-List, outs-Map, outs-Struct}
use Rattle.value_text.specs.ValueSteps.{place_before, place_at}
use Rattle.value_text.specs.Spelling.{SpellsBy, ALL}
use Rattle.value_text.specs.Spelling as spelling
use Rattle.value_text.proofs.Keys.{Steps, first, second, later, steps, below_trans, below_asym, SameKind, below_total, some}
use Rattle.value_text.proofs.Signs.{true_is_not_false}

-- ---- a key in a list

here : (key : Key) (keys : List Key) → Contains (key ∷ keys) key
here key keys = (0, omega arith, refl)

there : (next : Key) (keys : List Key) (key : Key) → Contains keys key → Contains (next ∷ keys) key
there next keys key h = Contains-append_right (next ∷ []) keys key h

-- it is the first, or one of those after it
first_or : (next : Key) (keys : List Key) (key : Key) → Contains (next ∷ keys) key → (next ≡ key) ⊎ Contains keys key
first_or next keys key h =
    elim (Contains-append_cases (next ∷ []) keys key h) [
      | inl one ↦ inl (All-contains (λ k. next ≡ k) (next ∷ []) key (All-from_recursion (λ k. next ≡ k) (next ∷ []) (refl, tt)) one)
      | inr rest ↦ inr rest
    ]

none_in_none : (key : Key) → Contains [] key → ⊥
none_in_none key h = omega (arith, h.1)

-- ---- a key with a place is none of the others

apart : (key next : Key) → key_below key next ≡ true → next ≡ key → ⊥
apart key next below same = let itself = ap (key_below key) (sym same) ∙ below in true_is_not_false (sym itself ∙ below_asym key key itself)

apart_over : (key next : Key) → key_below next key ≡ true → next ≡ key → ⊥
apart_over key next below same = apart next key below (sym same)

above_step : (key next : Key) {o : Option ℕ} {at : ℕ} (n : ℕ) → Steps key next o at → at ≡ suc n → ((m : ℕ) → o ≡ Some (suc m) → key_below next key ≡ true) → key_below next key ≡ true
above_step key next n (first below) is deeper = absurd cc
above_step key next n (second below) is deeper = below
above_step key next n (later m) is deeper = deeper m refl

-- a key whose place is after others is above the first of them
above_first : (key next : Key) (keys : List Key) (n : ℕ) → keys_rise (next ∷ keys) ≡ true → place_at key (next ∷ keys) ≡ Some (suc n) → key_below next key ≡ true
unfolding place_at
above_first key next [] n rise e = above_step key next n (steps key next (some 0) (suc n) e) refl (λ m is. absurd (none_there m is))
  where
    none_there : (m : ℕ) → some 0 ≡ Some (suc m) → ⊥
    none_there m is = cc
above_first key next (k ∷ keys) n rise e =
    let parts = and_parts (key_below next k) _ rise in
    above_step key next n (steps key next (place_at key (k ∷ keys)) (suc n) e) refl (λ m is. below_trans next k key parts.0 (above_first key k keys m parts.1 is))

not_first : (key next : Key) (keys : List Key) {o : Option ℕ} {at : ℕ} → Steps key next o at → ((n : ℕ) → o ≡ Some (suc n) → key_below next key ≡ true) → next ≡ key → ⊥
not_first key next keys (first below) above same = apart key next below same
not_first key next keys (second below) above same = apart_over key next below same
not_first key next keys (later n) above same = apart_over key next (above n refl) same

placed_in : (key next : Key) {o : Option ℕ} {at : ℕ} → Steps key next o at → (n : ℕ) × (o ≡ Some n)
placed_in key next (first below) = (0, refl)
placed_in key next (second below) = (0, refl)
placed_in key next (later n) = (suc n, refl)

place_free : (key : Key) (keys : List Key) (at : ℕ) → keys_rise keys ≡ true → place_at key keys ≡ Some at → Contains keys key → ⊥
unfolding place_at
place_free key [] at rise e has = none_in_none key has
place_free key (next ∷ keys) at rise e has =
    let one = steps key next (place_at key keys) at e in
    let place = placed_in key next one in
    elim (first_or next keys key has) [
      | inl same ↦ not_first key next keys one (λ n is. over keys n rise is) same
      | inr has ↦ place_free key keys place.0 (and_parts _ _ rise).1 place.1 has
    ]
  where
    over : (keys : List Key) (n : ℕ) → keys_rise (next ∷ keys) ≡ true → place_at key keys ≡ Some (suc n) → key_below next key ≡ true
    over [] n rise is = absurd cc
    over (k ∷ keys) n rise is = let parts = and_parts (key_below next k) _ rise in below_trans next k key parts.0 (above_first key k keys n parts.1 is)

-- ---- a key without a place is one of the others

taken_step : (key next : Key) (keys : List Key) (o : Option ℕ) → SameKind key next → (o ≡ None → Contains keys key) → place_before key next o ≡ None → Contains (next ∷ keys) key
taken_step key next keys None kind deeper e = there next keys key (deeper refl)
taken_step key next keys (Some (suc n)) kind deeper e = absurd cc
taken_step key next keys (Some zero) kind deeper e = by_first (key_below key next) refl e
  where
    by_second : (b : Bool) → key_below key next ≡ false → key_below next key ≡ b → cond b (some 1) None ≡ None → Contains (next ∷ keys) key
    by_second true not_below is e = absurd cc
    by_second false not_below is e = subst (λ (k : Key). Contains (k ∷ keys) key) (below_total key next kind not_below is) (here key keys)

    by_first : (b : Bool) → key_below key next ≡ b → cond b (some 0) (cond (key_below next key) (some 1) None) ≡ None → Contains (next ∷ keys) key
    by_first true is e = absurd cc
    by_first false is e = by_second (key_below next key) is refl e

place_taken : (key : Key) (keys : List Key) → AllByRecursion (SameKind key) keys → place_at key keys ≡ None → Contains keys key
unfolding place_at
place_taken key [] kinds e = absurd cc
place_taken key (next ∷ keys) kinds e = taken_step key next keys (place_at key keys) kinds.0 (λ none. place_taken key keys kinds.1 none) e

-- ---- keys of one type

-- a key of a type; all of them are of its kind
abbrev example_key : TyLayer → Key
example_key ty.Text = a_text []
example_key ty.Bool = no_key
example_key (ty.Vector of) = no_key
example_key (ty.Map key to) = no_key
example_key (ty.Struct k) = no_key
example_key _ = a_number (pos 0)

number_kind : (l : TyLayer) (n m : ℤ) → is_number_of l n ≡ true → SameKind (example_key l) (a_number m)
number_kind ty.Byte n m h = tt
number_kind ty.Short n m h = tt
number_kind ty.Int n m h = tt
number_kind ty.Long n m h = tt
number_kind ty.UByte n m h = tt
number_kind ty.UShort n m h = tt
number_kind ty.UInt n m h = tt
number_kind (ty.Enum k) n m h = tt
number_kind _ n m h = absurd cc

same_kind : (l m : TyLayer) (v : Value) (x : value.Value-F Value Pair) → l ≡ m → out-Value v ≡ x → SameKind (example_key m) (key_of x) → SameKind (example_key l) (key_of (out-Value v))
same_kind l m v x l_is v_is kind = subst (λ (l : TyLayer). SameKind (example_key l) (key_of (out-Value v))) (sym l_is) (subst (λ (x : value.Value-F Value Pair). SameKind (example_key m) (key_of x)) (sym v_is) kind)

pub spelled_kind : {d : Declared} {t : Ty} {v : Value} {bytes rest : List ℕ} → SpellsBy ALL d t v bytes rest → SameKind (example_key (out-Ty t)) (key_of (out-Value v))
spelled_kind {t = t} {v = v} (spelling.truth b is v_is text) = same_kind (out-Ty t) ty.Bool v (value.Bool b) is (ap out-Value v_is ∙ outs-Bool b) tt
spelled_kind {t = t} {v = v} (spelling.number n fits v_is says) = same_kind (out-Ty t) (out-Ty t) v (value.Num n) refl (ap out-Value v_is ∙ outs-Num n) (number_kind (out-Ty t) n n fits)
spelled_kind {t = t} {v = v} (spelling.text s inside is v_is text inner) = same_kind (out-Ty t) ty.Text v (value.Text s) is (ap out-Value v_is ∙ outs-Text s) tt
spelled_kind {t = t} {v = v} (spelling.blob of s inside is byte v_is text inner) = same_kind (out-Ty t) (ty.Vector of) v (value.Blob s) is (ap out-Value v_is ∙ outs-Blob s) tt
spelled_kind {t = t} {v = v} (spelling.no_elements of inside is other v_is text closes) = same_kind (out-Ty t) (ty.Vector of) v (value.List []) is (ap out-Value v_is ∙ outs-List []) tt
spelled_kind {t = t} {v = v} (spelling.elements of vs inside is other v_is text inner) = same_kind (out-Ty t) (ty.Vector of) v (value.List vs) is (ap out-Value v_is ∙ outs-List vs) tt
spelled_kind {t = t} {v = v} (spelling.no_entries key to inside is v_is text closes) = same_kind (out-Ty t) (ty.Map key to) v (value.Map []) is (ap out-Value v_is ∙ outs-Map []) tt
spelled_kind {t = t} {v = v} (spelling.entries key to ps all inside is v_is text inner placed) = same_kind (out-Ty t) (ty.Map key to) v (value.Map all) is (ap out-Value v_is ∙ outs-Map all) tt
spelled_kind {t = t} {v = v} (spelling.members k vs inside is v_is text inner) = same_kind (out-Ty t) (ty.Struct k) v (value.Struct vs) is (ap out-Value v_is ∙ outs-Struct vs) tt

abbrev pub OfKind : Ty → Key → Type 0
OfKind t key = SameKind (example_key (out-Ty t)) key

-- keys of the kind of a third are of one kind
as_one : (a b c : Key) → SameKind a b → SameKind a c → SameKind b c
as_one (a_number a) (a_number b) (a_number c) one two = tt
as_one (a_text a) (a_text b) (a_text c) one two = tt
as_one no_key no_key no_key one two = tt
as_one (a_number a) (a_number b) _ one two = absurd two
as_one (a_text a) (a_text b) _ one two = absurd two
as_one no_key no_key _ one two = absurd two
as_one _ _ _ one two = absurd one

as_each : (example key : Key) (keys : List Key) → SameKind example key → AllByRecursion (SameKind example) keys → AllByRecursion (SameKind key) keys
as_each example key [] kind kinds = tt
as_each example key (next ∷ keys) kind kinds = (as_one example key next kind kinds.0, as_each example key keys kind kinds.1)

-- ---- the keys of the entries of a map

-- the entries that are put in order have these keys and no others
pub record Kept (t : Ty) (keys : List Key) (pairs : List Pair) : Type 0 where
  pub rise : keys_rise (map entry_key pairs) ≡ true
  pub kinds : AllByRecursion (OfKind t) (map entry_key pairs)
  into : (key : Key) → Contains keys key → Contains (map entry_key pairs) key
  back : (key : Key) → Contains (map entry_key pairs) key → Contains keys key

pub none_kept : (t : Ty) → Kept t [] []
none_kept t = record { rise = refl; kinds = tt; into = λ key h. h; back = λ key h. h }

-- one entry more, between others
module _ (t : Ty) (keys : List Key) (lower higher : List Pair) (p : Pair) where
  between : map entry_key (lower ++ p ∷ higher) ≡ map entry_key lower ++ entry_key p ∷ map entry_key higher
  between = map-append entry_key lower (p ∷ higher)

  without : map entry_key (lower ++ higher) ≡ map entry_key lower ++ map entry_key higher
  without = map-append entry_key lower higher

  with_one : (key : Key) → (entry_key p ≡ key) ⊎ Contains (map entry_key (lower ++ higher)) key → Contains (map entry_key lower ++ entry_key p ∷ map entry_key higher) key
  with_one key (inl same) = Contains-append_right (map entry_key lower) (entry_key p ∷ map entry_key higher) key (subst (λ (k : Key). Contains (k ∷ map entry_key higher) key) (sym same) (here key (map entry_key higher)))
  with_one key (inr has) =
      elim (Contains-append_cases (map entry_key lower) (map entry_key higher) key (subst (λ (ks : List Key). Contains ks key) without has)) [
        | inl low ↦ Contains-append_left (map entry_key lower) (entry_key p ∷ map entry_key higher) key low
        | inr high ↦ Contains-append_right (map entry_key lower) (entry_key p ∷ map entry_key higher) key (there (entry_key p) (map entry_key higher) key high)
      ]

  one_or : (key : Key) → Contains (map entry_key lower ++ entry_key p ∷ map entry_key higher) key → (entry_key p ≡ key) ⊎ Contains (map entry_key (lower ++ higher)) key
  one_or key has =
      elim (Contains-append_cases (map entry_key lower) (entry_key p ∷ map entry_key higher) key has) [
        | inl low ↦ inr (subst (λ (ks : List Key). Contains ks key) (sym without) (Contains-append_left (map entry_key lower) (map entry_key higher) key low))
        | inr high ↦ elim (first_or (entry_key p) (map entry_key higher) key high) [
          | inl same ↦ inl same
          | inr higher_has ↦ inr (subst (λ (ks : List Key). Contains ks key) (sym without) (Contains-append_right (map entry_key lower) (map entry_key higher) key higher_has))
        ]
      ]

  pub kept_more : Kept t keys (lower ++ higher) → OfKind t (entry_key p) → keys_rise (map entry_key (lower ++ p ∷ higher)) ≡ true → Kept t (entry_key p ∷ keys) (lower ++ p ∷ higher)
  kept_more kept kind rise = record {
    rise = rise;
    kinds = kinds_between lower higher kept.kinds;
    into = λ key has. subst (λ (ks : List Key). Contains ks key) (sym between) (with_one key (elim (first_or (entry_key p) keys key has) [ inl same ↦ inl same | inr others ↦ inr (kept.into key others) ]));
    back = λ key has. elim (one_or key (subst (λ (ks : List Key). Contains ks key) between has)) [ inl same ↦ subst (λ (k : Key). Contains (k ∷ keys) key) (sym same) (here key keys) | inr others ↦ there (entry_key p) keys key (kept.back key others) ];
  }
    where
      kinds_between : (lower higher : List Pair) → AllByRecursion (OfKind t) (map entry_key (lower ++ higher)) → AllByRecursion (OfKind t) (map entry_key (lower ++ p ∷ higher))
      kinds_between [] higher kinds = (kind, kinds)
      kinds_between (l ∷ lower) higher kinds = (kinds.0, kinds_between lower higher kinds.1)

module _ (t : Ty) (keys : List Key) (pairs : List Pair) (kept : Kept t keys pairs) (key : Key) where
  -- a key has no place where it is one of them, and only there
  pub no_place_left : Contains keys key → place_at key (map entry_key pairs) ≡ None
  no_place_left has = by_place (place_at key (map entry_key pairs)) refl
    where
      by_place : (o : Option ℕ) → place_at key (map entry_key pairs) ≡ o → place_at key (map entry_key pairs) ≡ None
      by_place (Some at) is = absurd (place_free key (map entry_key pairs) at kept.rise is (kept.into key has))
      by_place None is = is

  pub is_none_of : (at : ℕ) → place_at key (map entry_key pairs) ≡ Some at → Contains keys key → ⊥
  is_none_of at is has = place_free key (map entry_key pairs) at kept.rise is (kept.into key has)

  pub is_among : OfKind t key → place_at key (map entry_key pairs) ≡ None → Contains keys key
  is_among kind none = kept.back key (place_taken key (map entry_key pairs) (as_each (example_key (out-Ty t)) key (map entry_key pairs) kind kept.kinds) none)

  pub place_open : OfKind t key → (Contains keys key → ⊥) → (at : ℕ) × (place_at key (map entry_key pairs) ≡ Some at)
  place_open kind fresh = by_place (place_at key (map entry_key pairs)) refl
    where
      by_place : (o : Option ℕ) → place_at key (map entry_key pairs) ≡ o → (at : ℕ) × (place_at key (map entry_key pairs) ≡ Some at)
      by_place (Some at) is = (at, is)
      by_place None is = absurd (fresh (is_among kind is))
