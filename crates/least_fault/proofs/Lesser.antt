-- Laws of the lesser of two, and of the least of a list.
use Rattle.std.proofs.Common.{◌≡◌, subst, unwrap_or, Bool, true, false, cond, Option, Some, None, List, [], ◌∷◌, ◌++◌, refl, sym, ap, ◌∙◌, inl, inr}
use Rattle.std.proofs.lemmas.Bool.{cases_Bool}
use Rattle.least_fault.specs.Least.{IsOrder, NoneBelow, IsLeast, lesser, least_of}

true_and_false : {A : Type 0} (b : Bool) → b ≡ true → b ≡ false → A
true_and_false b is is_not = absurd (clash b is is_not)
  where
    clash : (b : Bool) → b ≡ true → b ≡ false → ⊥
    clash true is is_not = cc
    clash false is is_not = cc

pub lesser_none : {X : Type 0} (below : X → X → Bool) (a : Option X) → lesser below a None ≡ a
lesser_none below None = refl
lesser_none below (Some x) = refl

module _ {X : Type 0} (below : X → X → Bool) (order : IsOrder below) where
  some_same : (x y : X) → x ≡ y → Some x ≡ Some y
  some_same x y e = ap (λ (z : X). Some z) e

  pub lesser_comm : (a b : Option X) → lesser below a b ≡ lesser below b a
  lesser_comm None b = sym (lesser_none below b)
  lesser_comm (Some x) None = refl
  lesser_comm (Some x) (Some y) =
      elim (cases_Bool (below y x)) [
        | inl yx ↦ rw (yx, order.one_way y x yx) refl
        | inr yx ↦ elim (cases_Bool (below x y)) [
          | inl xy ↦ rw (yx, xy) refl
          | inr xy ↦ rw (yx, xy) (some_same x y (order.apart x y xy yx))
        ]
      ]

  -- what is not below the middle one is not below one that the middle one is not above
  not_onward : (x y z : X) → below y x ≡ false → below z y ≡ false → below z x ≡ false
  not_onward x y z yx zy =
      elim (cases_Bool (below z x)) [
        | inl zx ↦ elim (cases_Bool (below y z)) [
          | inl yz ↦ true_and_false (below y x) (order.onward y z x yz zx) yx
          | inr yz ↦ true_and_false (below y x) (ap (λ w. below w x) (sym (order.apart z y zy yz)) ∙ zx) yx
        ]
        | inr zx ↦ zx
      ]

  pub lesser_assoc : (a b c : Option X) → lesser below (lesser below a b) c ≡ lesser below a (lesser below b c)
  lesser_assoc None b c = refl
  lesser_assoc (Some x) None c = refl
  lesser_assoc (Some x) (Some y) None = lesser_none below (lesser below (Some x) (Some y))
  lesser_assoc (Some x) (Some y) (Some z) =
      elim (cases_Bool (below y x)) [
        | inl yx ↦ elim (cases_Bool (below z y)) [
          | inl zy ↦ rw (yx, zy, order.onward z y x zy yx) refl
          | inr zy ↦ rw (yx, zy) (rw yx refl)
        ]
        | inr yx ↦ elim (cases_Bool (below z y)) [
          | inl zy ↦ rw (yx, zy) refl
          | inr zy ↦ rw (yx, zy, not_onward x y z yx zy) (rw yx refl)
        ]
      ]

  -- two and two, crosswise
  pub lesser_across : (a b c d : Option X) → lesser below (lesser below a b) (lesser below c d) ≡ lesser below (lesser below a c) (lesser below b d)
  lesser_across a b c d =
      lesser_assoc a b (lesser below c d)
      ∙ ap (lesser below a) (sym (lesser_assoc b c d) ∙ ap (λ o. lesser below o d) (lesser_comm b c) ∙ lesser_assoc c b d)
      ∙ sym (lesser_assoc a c (lesser below b d))

  pub least_append : (xs ys : List X) → least_of below (xs ++ ys) ≡ lesser below (least_of below xs) (least_of below ys)
  least_append [] ys = refl
  least_append (x ∷ xs) ys =
      ap (lesser below (Some x)) (least_append xs ys) ∙ sym (lesser_assoc (Some x) (least_of below xs) (least_of below ys))

  no_value : (a : Option X) (x : X) → lesser below (Some x) a ≡ None → ⊥
  no_value None x e = cc
  no_value (Some y) x e = by_test (below y x) e
    where
      by_test : (b : Bool) → cond b (Some y) (Some x) ≡ None → ⊥
      by_test true e = cc
      by_test false e = cc

  -- only an empty list has no least
  pub none_empty : (xs : List X) → least_of below xs ≡ None → xs ≡ []
  none_empty [] e = refl
  none_empty (x ∷ xs) e = absurd (no_value (least_of below xs) x e)

  not_below_itself : (x : X) → below x x ≡ false
  not_below_itself x = elim (cases_Bool (below x x)) [ inl xx ↦ order.one_way x x xx | inr xx ↦ xx ]

  -- what is not below one is not below another that this one is not below
  none_below_onward : (x z : X) (ys : List X) → below z x ≡ false → NoneBelow below ys z → NoneBelow below ys x
  none_below_onward x z [] zx none = tt
  none_below_onward x z (y ∷ ys) zx none = (not_onward x z y zx none.0, none_below_onward x z ys zx none.1)

  keeps_least : (x z : X) (ys : List X) → IsLeast below ys z → (b : Bool) → below z x ≡ b → (y : X) → cond b (Some z) (Some x) ≡ Some y → IsLeast below (x ∷ ys) y
  keeps_least x z ys least true zx y e =
      let P : X → Type 0 = IsLeast below (x ∷ ys) in
      subst P (ap (λ (o : Option X). unwrap_or o z) e) (record {
        earlier = x ∷ least.earlier;
        later = least.later;
        stands = ap (λ (l : List X). x ∷ l) least.stands;
        none_below = (order.one_way z x zx, least.none_below);
      })
  keeps_least x z ys least false zx y e =
      let P : X → Type 0 = IsLeast below (x ∷ ys) in
      subst P (ap (λ (o : Option X). unwrap_or o x) e) (record {
        earlier = [];
        later = ys;
        stands = refl;
        none_below = (not_below_itself x, none_below_onward x z ys zx least.none_below);
      })

  least_with : (x : X) (ys : List X) (o : Option X) → least_of below ys ≡ o → ((z : X) → o ≡ Some z → IsLeast below ys z) → (y : X) → lesser below (Some x) o ≡ Some y → IsLeast below (x ∷ ys) y
  least_with x ys None is rest y e =
      let P : X → Type 0 = IsLeast below (x ∷ ys) in
      subst P (ap (λ (o : Option X). unwrap_or o x) e) (record {
        earlier = [];
        later = ys;
        stands = refl;
        none_below = (not_below_itself x, subst (λ (l : List X). NoneBelow below l x) (sym (none_empty ys is)) tt);
      })
  least_with x ys (Some z) is rest y e = keeps_least x z ys (rest z refl) (below z x) refl y e

  -- the least of a list stands in it, and nothing there is below it
  pub some_least : (xs : List X) (y : X) → least_of below xs ≡ Some y → IsLeast below xs y
  some_least [] y e = cc
  some_least (x ∷ xs) y e = least_with x xs (least_of below xs) refl (λ z is. some_least xs z is) y e

  -- a value that nothing in the list is below stays
  pub least_stays : (x : X) (ys : List X) → NoneBelow below ys x → lesser below (Some x) (least_of below ys) ≡ Some x
  least_stays x [] none = refl
  least_stays x (y ∷ ys) none =
      sym (lesser_assoc (Some x) (Some y) (least_of below ys))
      ∙ ap (λ o. lesser below o (least_of below ys)) (stays (below y x) none.0)
      ∙ least_stays x ys none.1
    where
      stays : (b : Bool) → b ≡ false → cond b (Some y) (Some x) ≡ Some x
      stays true e = cc
      stays false e = refl

  -- so what is found later need not be looked at
  pub least_stop : (xs ys : List X) (x : X) → least_of below xs ≡ Some x → NoneBelow below ys x → least_of below (xs ++ ys) ≡ Some x
  least_stop xs ys x e none =
      least_append xs ys ∙ ap (λ o. lesser below o (least_of below ys)) e ∙ least_stays x ys none
