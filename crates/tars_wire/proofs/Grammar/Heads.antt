-- Heads: a code has one type, and bytes begin with one head at most.
use Rattle.std.proofs.Common.{◌⊎◌, inl, inr, ◌≡◌, ◌<◌, ℕ, Bool, true, false, cond, eqb, List, Option, Some, None, refl, sym, ap, ◌∙◌, subst, arith, lit<}
use Rattle.tars_wire.specs.declared.wire_type.WireType.{WireType}
use Rattle.tars_wire.specs.declared.wire_type.WireType.TheVariants as wire
use Rattle.tars_wire.specs.Heads.{type_of, code_of, Head, short, long}
use Rattle.tars_wire.proofs.TestLemmas.{eqb_fact}

pub type_of-code_of : (type : WireType) → type_of (code_of type) ≡ Some type
unfolding type_of
type_of-code_of wire.Int1 = refl
type_of-code_of wire.Int2 = refl
type_of-code_of wire.Int4 = refl
type_of-code_of wire.Int8 = refl
type_of-code_of wire.Float = refl
type_of-code_of wire.Double = refl
type_of-code_of wire.String1 = refl
type_of-code_of wire.String4 = refl
type_of-code_of wire.Map = refl
type_of-code_of wire.List = refl
type_of-code_of wire.StructBegin = refl
type_of-code_of wire.StructEnd = refl
type_of-code_of wire.ZeroTag = refl
type_of-code_of wire.SimpleList = refl

pub code_below : (type : WireType) → code_of type < 14
code_below wire.Int1 = lit< tt
code_below wire.Int2 = lit< tt
code_below wire.Int4 = lit< tt
code_below wire.Int8 = lit< tt
code_below wire.Float = lit< tt
code_below wire.Double = lit< tt
code_below wire.String1 = lit< tt
code_below wire.String4 = lit< tt
code_below wire.Map = lit< tt
code_below wire.List = lit< tt
code_below wire.StructBegin = lit< tt
code_below wire.StructEnd = lit< tt
code_below wire.ZeroTag = lit< tt
code_below wire.SimpleList = lit< tt

some_same : (a b : WireType) → Some a ≡ Some b → a ≡ b
some_same a b e = cc

none_some : (b : WireType) → None ≡ Some b → ⊥
none_some b e = cc

pub code_same : (a b : WireType) → code_of a ≡ code_of b → a ≡ b
code_same a b e = some_same a b (sym (type_of-code_of a) ∙ (ap type_of e ∙ type_of-code_of b))

chosen : (b : Bool) (x y : Option WireType) (z : WireType) → cond b x y ≡ Some z → ((b ≡ true) × (x ≡ Some z)) ⊎ ((b ≡ false) × (y ≡ Some z))
chosen true x y z e = inl (refl, e)
chosen false x y z e = inr (refl, e)

pub code_of-type_of : (n : ℕ) (type : WireType) → type_of n ≡ Some type → n ≡ code_of type
unfolding type_of
code_of-type_of n type e = at0 e
  where
    at14 : None ≡ Some type → n ≡ code_of type
    at14 e = absurd (none_some type e)

    at13 : cond (eqb n 13) (Some wire.SimpleList) (None) ≡ Some type → n ≡ code_of type
    at13 e = elim (chosen (eqb n 13) (Some wire.SimpleList) _ type e) [ inl h ↦ eqb_fact n 13 h.0 ∙ ap code_of (some_same wire.SimpleList type h.1) | inr h ↦ at14 h.1 ]

    at12 : cond (eqb n 12) (Some wire.ZeroTag) (cond (eqb n 13) (Some wire.SimpleList) (None)) ≡ Some type → n ≡ code_of type
    at12 e = elim (chosen (eqb n 12) (Some wire.ZeroTag) _ type e) [ inl h ↦ eqb_fact n 12 h.0 ∙ ap code_of (some_same wire.ZeroTag type h.1) | inr h ↦ at13 h.1 ]

    at11 : cond (eqb n 11) (Some wire.StructEnd) (cond (eqb n 12) (Some wire.ZeroTag) (cond (eqb n 13) (Some wire.SimpleList) (None))) ≡ Some type → n ≡ code_of type
    at11 e = elim (chosen (eqb n 11) (Some wire.StructEnd) _ type e) [ inl h ↦ eqb_fact n 11 h.0 ∙ ap code_of (some_same wire.StructEnd type h.1) | inr h ↦ at12 h.1 ]

    at10 : cond (eqb n 10) (Some wire.StructBegin) (cond (eqb n 11) (Some wire.StructEnd) (cond (eqb n 12) (Some wire.ZeroTag) (cond (eqb n 13) (Some wire.SimpleList) (None)))) ≡ Some type → n ≡ code_of type
    at10 e = elim (chosen (eqb n 10) (Some wire.StructBegin) _ type e) [ inl h ↦ eqb_fact n 10 h.0 ∙ ap code_of (some_same wire.StructBegin type h.1) | inr h ↦ at11 h.1 ]

    at9 : cond (eqb n 9) (Some wire.List) (cond (eqb n 10) (Some wire.StructBegin) (cond (eqb n 11) (Some wire.StructEnd) (cond (eqb n 12) (Some wire.ZeroTag) (cond (eqb n 13) (Some wire.SimpleList) (None))))) ≡ Some type → n ≡ code_of type
    at9 e = elim (chosen (eqb n 9) (Some wire.List) _ type e) [ inl h ↦ eqb_fact n 9 h.0 ∙ ap code_of (some_same wire.List type h.1) | inr h ↦ at10 h.1 ]

    at8 : cond (eqb n 8) (Some wire.Map) (cond (eqb n 9) (Some wire.List) (cond (eqb n 10) (Some wire.StructBegin) (cond (eqb n 11) (Some wire.StructEnd) (cond (eqb n 12) (Some wire.ZeroTag) (cond (eqb n 13) (Some wire.SimpleList) (None)))))) ≡ Some type → n ≡ code_of type
    at8 e = elim (chosen (eqb n 8) (Some wire.Map) _ type e) [ inl h ↦ eqb_fact n 8 h.0 ∙ ap code_of (some_same wire.Map type h.1) | inr h ↦ at9 h.1 ]

    at7 : cond (eqb n 7) (Some wire.String4) (cond (eqb n 8) (Some wire.Map) (cond (eqb n 9) (Some wire.List) (cond (eqb n 10) (Some wire.StructBegin) (cond (eqb n 11) (Some wire.StructEnd) (cond (eqb n 12) (Some wire.ZeroTag) (cond (eqb n 13) (Some wire.SimpleList) (None))))))) ≡ Some type → n ≡ code_of type
    at7 e = elim (chosen (eqb n 7) (Some wire.String4) _ type e) [ inl h ↦ eqb_fact n 7 h.0 ∙ ap code_of (some_same wire.String4 type h.1) | inr h ↦ at8 h.1 ]

    at6 : cond (eqb n 6) (Some wire.String1) (cond (eqb n 7) (Some wire.String4) (cond (eqb n 8) (Some wire.Map) (cond (eqb n 9) (Some wire.List) (cond (eqb n 10) (Some wire.StructBegin) (cond (eqb n 11) (Some wire.StructEnd) (cond (eqb n 12) (Some wire.ZeroTag) (cond (eqb n 13) (Some wire.SimpleList) (None)))))))) ≡ Some type → n ≡ code_of type
    at6 e = elim (chosen (eqb n 6) (Some wire.String1) _ type e) [ inl h ↦ eqb_fact n 6 h.0 ∙ ap code_of (some_same wire.String1 type h.1) | inr h ↦ at7 h.1 ]

    at5 : cond (eqb n 5) (Some wire.Double) (cond (eqb n 6) (Some wire.String1) (cond (eqb n 7) (Some wire.String4) (cond (eqb n 8) (Some wire.Map) (cond (eqb n 9) (Some wire.List) (cond (eqb n 10) (Some wire.StructBegin) (cond (eqb n 11) (Some wire.StructEnd) (cond (eqb n 12) (Some wire.ZeroTag) (cond (eqb n 13) (Some wire.SimpleList) (None))))))))) ≡ Some type → n ≡ code_of type
    at5 e = elim (chosen (eqb n 5) (Some wire.Double) _ type e) [ inl h ↦ eqb_fact n 5 h.0 ∙ ap code_of (some_same wire.Double type h.1) | inr h ↦ at6 h.1 ]

    at4 : cond (eqb n 4) (Some wire.Float) (cond (eqb n 5) (Some wire.Double) (cond (eqb n 6) (Some wire.String1) (cond (eqb n 7) (Some wire.String4) (cond (eqb n 8) (Some wire.Map) (cond (eqb n 9) (Some wire.List) (cond (eqb n 10) (Some wire.StructBegin) (cond (eqb n 11) (Some wire.StructEnd) (cond (eqb n 12) (Some wire.ZeroTag) (cond (eqb n 13) (Some wire.SimpleList) (None)))))))))) ≡ Some type → n ≡ code_of type
    at4 e = elim (chosen (eqb n 4) (Some wire.Float) _ type e) [ inl h ↦ eqb_fact n 4 h.0 ∙ ap code_of (some_same wire.Float type h.1) | inr h ↦ at5 h.1 ]

    at3 : cond (eqb n 3) (Some wire.Int8) (cond (eqb n 4) (Some wire.Float) (cond (eqb n 5) (Some wire.Double) (cond (eqb n 6) (Some wire.String1) (cond (eqb n 7) (Some wire.String4) (cond (eqb n 8) (Some wire.Map) (cond (eqb n 9) (Some wire.List) (cond (eqb n 10) (Some wire.StructBegin) (cond (eqb n 11) (Some wire.StructEnd) (cond (eqb n 12) (Some wire.ZeroTag) (cond (eqb n 13) (Some wire.SimpleList) (None))))))))))) ≡ Some type → n ≡ code_of type
    at3 e = elim (chosen (eqb n 3) (Some wire.Int8) _ type e) [ inl h ↦ eqb_fact n 3 h.0 ∙ ap code_of (some_same wire.Int8 type h.1) | inr h ↦ at4 h.1 ]

    at2 : cond (eqb n 2) (Some wire.Int4) (cond (eqb n 3) (Some wire.Int8) (cond (eqb n 4) (Some wire.Float) (cond (eqb n 5) (Some wire.Double) (cond (eqb n 6) (Some wire.String1) (cond (eqb n 7) (Some wire.String4) (cond (eqb n 8) (Some wire.Map) (cond (eqb n 9) (Some wire.List) (cond (eqb n 10) (Some wire.StructBegin) (cond (eqb n 11) (Some wire.StructEnd) (cond (eqb n 12) (Some wire.ZeroTag) (cond (eqb n 13) (Some wire.SimpleList) (None)))))))))))) ≡ Some type → n ≡ code_of type
    at2 e = elim (chosen (eqb n 2) (Some wire.Int4) _ type e) [ inl h ↦ eqb_fact n 2 h.0 ∙ ap code_of (some_same wire.Int4 type h.1) | inr h ↦ at3 h.1 ]

    at1 : cond (eqb n 1) (Some wire.Int2) (cond (eqb n 2) (Some wire.Int4) (cond (eqb n 3) (Some wire.Int8) (cond (eqb n 4) (Some wire.Float) (cond (eqb n 5) (Some wire.Double) (cond (eqb n 6) (Some wire.String1) (cond (eqb n 7) (Some wire.String4) (cond (eqb n 8) (Some wire.Map) (cond (eqb n 9) (Some wire.List) (cond (eqb n 10) (Some wire.StructBegin) (cond (eqb n 11) (Some wire.StructEnd) (cond (eqb n 12) (Some wire.ZeroTag) (cond (eqb n 13) (Some wire.SimpleList) (None))))))))))))) ≡ Some type → n ≡ code_of type
    at1 e = elim (chosen (eqb n 1) (Some wire.Int2) _ type e) [ inl h ↦ eqb_fact n 1 h.0 ∙ ap code_of (some_same wire.Int2 type h.1) | inr h ↦ at2 h.1 ]

    at0 : cond (eqb n 0) (Some wire.Int1) (cond (eqb n 1) (Some wire.Int2) (cond (eqb n 2) (Some wire.Int4) (cond (eqb n 3) (Some wire.Int8) (cond (eqb n 4) (Some wire.Float) (cond (eqb n 5) (Some wire.Double) (cond (eqb n 6) (Some wire.String1) (cond (eqb n 7) (Some wire.String4) (cond (eqb n 8) (Some wire.Map) (cond (eqb n 9) (Some wire.List) (cond (eqb n 10) (Some wire.StructBegin) (cond (eqb n 11) (Some wire.StructEnd) (cond (eqb n 12) (Some wire.ZeroTag) (cond (eqb n 13) (Some wire.SimpleList) (None)))))))))))))) ≡ Some type → n ≡ code_of type
    at0 e = elim (chosen (eqb n 0) (Some wire.Int1) _ type e) [ inl h ↦ eqb_fact n 0 h.0 ∙ ap code_of (some_same wire.Int1 type h.1) | inr h ↦ at1 h.1 ]

-- Two heads that begin the same bytes are one.
pub same_head : {tag tag' : ℕ} {type type' : WireType} {input rest rest' : List ℕ} → Head tag type input rest → Head tag' type' input rest' → (tag ≡ tag') × (type ≡ type') × (rest ≡ rest')
same_head {tag} {tag'} {type} {type'} (short e below) (short e' below') =
    let c = code_below type in let c' = code_below type' in
    (omega arith, code_same type type' (omega arith), refl)
same_head {tag} {tag'} {type} {type'} (short e below) (long e' below') =
    let c = code_below type in let c' = code_below type' in absurd (omega arith)
same_head {tag} {tag'} {type} {type'} (long e below) (short e' below') =
    let c = code_below type in let c' = code_below type' in absurd (omega arith)
same_head {tag} {tag'} {type} {type'} (long e below) (long e' below') = (refl, code_same type type' (omega arith), refl)

-- what holds after the second head holds after the first
pub by_head : {tag tag' : ℕ} {type type' : WireType} {input rest rest' : List ℕ} → Head tag type input rest → Head tag' type' input rest' → (P : ℕ → WireType → List ℕ → Type 0) → P tag' type' rest' → P tag type rest
by_head {tag} {tag'} {type} {type'} {input} {rest} {rest'} h h' P p =
    let same = same_head h h' in
    let by_tag : P tag type' rest' = subst (λ (t : ℕ). P t type' rest') (sym same.0) p in
    let by_type : P tag type rest' = subst (λ (t : WireType). P tag t rest') (sym same.1) by_tag in
    subst (λ (r : List ℕ). P tag type r) (sym same.2) by_type
