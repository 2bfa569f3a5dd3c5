-- Bytes, numbers and sizes, by what is spelled and by what is awaited.
use Rattle.std.proofs.Common.{◌⊎◌, inl, inr, ◌≡◌, ◌<◌, ◌≤◌, ◌^◌, ℕ, zero, suc, ◌+◌, ◌-◌, ◌*◌, Bool, true, false, ltb, cond, ℤ, pos, negsuc, List, [], ◌∷◌, length, refl, sym, ap, ◌∙◌, subst, arith}
use Rattle.std.specs.Int.{Width, w8, w16, w32, from_be_bytes, cast_signed}
use Rattle.std.proofs.lemmas.Bool.{ltb-true, ltb-false, le-ltb}
use Rattle.std.proofs.lemmas.Int.{to_z_pos}
use mir.Val.{hbits, bits}
use Rattle.wire_words.specs.Tree.{WireNumber, zero_tag, int1, int2, int4, WireValues, no_values, WirePairs, no_pairs}
use Rattle.tars_wire.specs.declared.wire_type.WireType.{WireType}
use Rattle.tars_wire.specs.declared.wire_type.WireType.TheVariants as wire
use Rattle.tars_wire.specs.Spelled.{Rules, Bytes, no_bytes, byte, signed, Number, is_zero_tag, is_int1, is_int2, is_int4, is_int8, at_least_0, CountsAs, IsSizeBy, ValuesBy, no_more_values, one_value, PairsBy, no_more_pairs, one_pair}
use Rattle.tars_wire.specs.MachineSteps.{is_size, Kind, of_bytes, of_values, of_pairs, Part, counted, size_bytes}
use Rattle.tars_wire.proofs.Machine.Meaning.{Run, Counted, Later, Parts}
use Rattle.tars_wire.proofs.TestLemmas.{false_true}

-- so many bytes that are spelled
pub run_there : {bytes w rest : List ℕ} → Bytes bytes w rest → (n : ℕ) → length bytes ≡ n → (After : List ℕ → Type 0) → After rest → Run n w After
run_there no_bytes zero e After a = a
run_there (byte fits more) zero e After a = absurd (omega arith)
run_there no_bytes (suc n) e After a = absurd (omega arith)
run_there (byte fits more) (suc n) e After a = (fits, run_there more n (omega arith) After a)

-- some bytes are spelled
pub record SomeBytes (n : ℕ) (w : List ℕ) (After : List ℕ → Type 0) : Type 0 where
  pub bytes : List ℕ
  pub rest : List ℕ
  pub spelled : Bytes bytes w rest
  pub size : length bytes ≡ n
  pub after : After rest

pub run_back : (n : ℕ) (w : List ℕ) (After : List ℕ → Type 0) → Run n w After → SomeBytes n w After
run_back zero w After a = record { bytes = []; rest = w; spelled = no_bytes; size = refl; after = a }
run_back (suc n) [] After a = absurd a
run_back (suc n) (b ∷ w) After a =
    let more = run_back n w After a.1 in
    record { bytes = b ∷ more.bytes; rest = more.rest; spelled = byte a.0 more.spelled; size = ap suc more.size; after = more.after }

-- the number that bytes go on with
abbrev pub value_of : ℕ → List ℕ → ℕ
value_of so_far [] = so_far
value_of so_far (b ∷ bytes) = value_of (so_far * 256 + b) bytes

pub later_there : (rules : Rules) {bytes w mid : List ℕ} → Bytes bytes w mid → (kind : Kind) (more so_far : ℕ) → length bytes ≡ more → (After : List ℕ → Type 0) → Counted rules kind (value_of so_far bytes) mid After → Later rules kind more so_far w After
later_there rules no_bytes kind zero so_far e After c = c
later_there rules (byte fits rest) kind zero so_far e After c = absurd (omega arith)
later_there rules no_bytes kind (suc more) so_far e After c = absurd (omega arith)
later_there rules (byte {b = b} fits rest) kind (suc more) so_far e After c = (fits, later_there rules rest kind more (so_far * 256 + b) (omega arith) After c)

pub later_back : (rules : Rules) (kind : Kind) (more so_far : ℕ) (w : List ℕ) (After : List ℕ → Type 0) → Later rules kind more so_far w After → (bytes : List ℕ) × (mid : List ℕ) × Bytes bytes w mid × (length bytes ≡ more) × Counted rules kind (value_of so_far bytes) mid After
later_back rules kind zero so_far w After c = ([], w, no_bytes, refl, c)
later_back rules kind (suc more) so_far [] After c = absurd c
later_back rules kind (suc more) so_far (b ∷ w) After c =
    let t = later_back rules kind more (so_far * 256 + b) w After c.1 in
    (b ∷ t.0, t.1, byte c.0 t.2, ap suc t.3, t.4)

-- the code's number and the grammar's
pub value_four : (bytes : List ℕ) → length bytes ≡ 4 → value_of 0 bytes ≡ from_be_bytes w32 bytes
value_four [] e = absurd (omega arith)
value_four (a ∷ []) e = absurd (omega arith)
value_four (a ∷ b ∷ []) e = absurd (omega arith)
value_four (a ∷ b ∷ c ∷ []) e = absurd (omega arith)
value_four (a ∷ b ∷ c ∷ d ∷ []) e = omega arith
value_four (a ∷ b ∷ c ∷ d ∷ f ∷ more) e = absurd (omega arith)

-- what is counted with nothing left of it
counted_zero : {rules : Rules} {room n : ℕ} {vs : WireValues} {w rest : List ℕ} (P : List ℕ → Type 0) → n ≡ 0 → ValuesBy rules room n vs w rest → P rest → P w
counted_zero P e no_more_values p = p
counted_zero P e (one_value head contents more) p = absurd (omega arith)

counted_none : {rules : Rules} {room n : ℕ} {ps : WirePairs} {w rest : List ℕ} (P : List ℕ → Type 0) → n ≡ 0 → PairsBy rules room n ps w rest → P rest → P w
counted_none P e no_more_pairs p = p
counted_none P e (one_pair key_head key head contents more) p = absurd (omega arith)

pub counted_there : (rules : Rules) (kind : Kind) (n : ℕ) (w : List ℕ) (below : List Part) (After : List ℕ → Type 0) → Counted rules kind n w (λ v. Parts rules below v After) → Parts rules (counted kind n below) w After
counted_there rules of_bytes zero w below After c = c
counted_there rules of_bytes (suc n) w below After c = c
counted_there rules (of_values room) zero w below After c = counted_zero (λ v. Parts rules below v After) refl c.2 c.3
counted_there rules (of_values room) (suc n) w below After c = c
counted_there rules (of_pairs room) zero w below After c = counted_none (λ v. Parts rules below v After) refl c.2 c.3
counted_there rules (of_pairs room) (suc n) w below After c = c

pub counted_back : (rules : Rules) (kind : Kind) (n : ℕ) (w : List ℕ) (below : List Part) (After : List ℕ → Type 0) → Parts rules (counted kind n below) w After → Counted rules kind n w (λ v. Parts rules below v After)
counted_back rules of_bytes zero w below After c = c
counted_back rules of_bytes (suc n) w below After c = c
counted_back rules (of_values room) zero w below After c = (no_values, w, no_more_values, c)
counted_back rules (of_values room) (suc n) w below After c = c
counted_back rules (of_pairs room) zero w below After c = (no_pairs, w, no_more_pairs, c)
counted_back rules (of_pairs room) (suc n) w below After c = c

-- a size of 0 counts nothing
nothing_there : (rules : Rules) (kind : Kind) (w : List ℕ) (below : List Part) (After : List ℕ → Type 0) → Counted rules kind 0 w (λ v. Parts rules below v After) → Parts rules below w After
nothing_there rules of_bytes w below After c = c
nothing_there rules (of_values room) w below After c = counted_there rules (of_values room) 0 w below After c
nothing_there rules (of_pairs room) w below After c = counted_there rules (of_pairs room) 0 w below After c

nothing_back : (rules : Rules) (kind : Kind) (w : List ℕ) (below : List Part) (After : List ℕ → Type 0) → Parts rules below w After → Counted rules kind 0 w (λ v. Parts rules below v After)
nothing_back rules of_bytes w below After c = c
nothing_back rules (of_values room) w below After c = counted_back rules (of_values room) 0 w below After c
nothing_back rules (of_pairs room) w below After c = counted_back rules (of_pairs room) 0 w below After c

-- a size is not negative, or it counts nothing
counts_as : (sizes : Bool) (w : Width) (x n : ℕ) → CountsAs sizes (cast_signed w x) n → ((x < 2 ^ hbits w) × (x ≡ n)) ⊎ ((sizes ≡ false) × (2 ^ hbits w ≤ x) × (n ≡ 0))
counts_as sizes w x n e = go sizes (ltb x (2 ^ hbits w)) refl e
  where
    pos_same : (a b : ℕ) → pos a ≡ pos b → a ≡ b
    pos_same a b e = cc

    neg_pos : (a b : ℕ) → negsuc a ≡ pos b → ⊥
    neg_pos a b e = cc

    go : (s b : Bool) → ltb x (2 ^ hbits w) ≡ b → CountsAs s (cond b (pos x) (negsuc (2 ^ bits w - suc x))) n → ((x < 2 ^ hbits w) × (x ≡ n)) ⊎ ((s ≡ false) × (2 ^ hbits w ≤ x) × (n ≡ 0))
    go true true f e = inl (ltb-true x (2 ^ hbits w) f, pos_same x n e)
    go true false f e = absurd (neg_pos _ n e)
    go false true f e = inl (ltb-true x (2 ^ hbits w) f, sym e)
    go false false f e = inr (refl, ltb-false x (2 ^ hbits w) f, e)

pub positive : (w : Width) (x n : ℕ) → cast_signed w x ≡ pos n → (x < 2 ^ hbits w) × (x ≡ n)
positive w x n e = elim (counts_as true w x n e) [ inl p ↦ p | inr q ↦ absurd (false_true (sym q.0)) ]

-- and back
counts_positive : (sizes : Bool) (n : ℕ) (number : ℤ) → number ≡ pos n → CountsAs sizes number n
counts_positive true n number e = e
counts_positive false n number e = ap at_least_0 (sym e)

counts_negative : (sizes : Bool) (w : Width) (x : ℕ) → sizes ≡ false → 2 ^ hbits w ≤ x → CountsAs sizes (cast_signed w x) 0
counts_negative true w x e le = absurd (false_true (sym e))
counts_negative false w x e le = rw (le-ltb x (2 ^ hbits w) le) refl

two_bytes : (a b : ℕ) → a < 128 → b < 256 → signed w16 (a ∷ b ∷ []) ≡ pos (a * 256 + b)
two_bytes a b below fits =
    let e : from_be_bytes w16 (a ∷ b ∷ []) ≡ a * 256 + b = omega arith in
    ap (cast_signed w16) e ∙ to_z_pos w16 (a * 256 + b) (omega arith)

four_bytes : (a b d f : ℕ) → a < 128 → b < 256 → d < 256 → f < 256 → signed w32 (a ∷ b ∷ d ∷ f ∷ []) ≡ pos (((a * 256 + b) * 256 + d) * 256 + f)
four_bytes a b d f below fits fits1 fits2 =
    let e : from_be_bytes w32 (a ∷ b ∷ d ∷ f ∷ []) ≡ ((a * 256 + b) * 256 + d) * 256 + f = omega arith in
    ap (cast_signed w32) e ∙ to_z_pos w32 (((a * 256 + b) * 256 + d) * 256 + f) (omega arith)

-- from a size to its bytes
abbrev by_count : (rules : Rules) (kind : Kind) (mid : List ℕ) (After : List ℕ → Type 0) (m n : ℕ) → m ≡ n → Counted rules kind m mid After → Counted rules kind n mid After
by_count rules kind mid After m n e c = subst (λ (k : ℕ). Counted rules kind k mid After) e c

nothing_more : (rules : Rules) (kind : Kind) (n : ℕ) (w : List ℕ) (below : List Part) (After : List ℕ → Type 0) → n ≡ 0 → Counted rules kind n w (λ v. Parts rules below v After) → Parts rules below w After
nothing_more rules kind n w below After e c = nothing_there rules kind w below After (by_count rules kind w (λ v. Parts rules below v After) n 0 e c)

pub size_there : (rules : Rules) {type : WireType} {number : WireNumber} {w mid : List ℕ} (kind : Kind) (n : ℕ) (below : List Part) (After : List ℕ → Type 0) → Number type number w mid → IsSizeBy rules.sizes number n → Counted rules kind n mid (λ v. Parts rules below v After) → Parts rules (size_bytes kind type below) w After
size_there rules kind n below After is_zero_tag e c =
    counted_there rules kind 0 _ below After (by_count rules kind _ (λ v. Parts rules below v After) n 0 e c)
size_there rules kind n below After (is_int1 no_bytes size) e c = absurd (omega arith)
size_there rules kind n below After (is_int1 (byte {b = a} fits no_bytes) size) e c =
    elim (counts_as rules.sizes w8 a n e) [
      | inl p ↦ inl (p.0, by_count rules kind _ (λ v. Parts rules below v After) n a (sym p.1) c)
      | inr q ↦ inr (q.0, omega arith, fits, nothing_more rules kind n _ below After q.2 c)
    ]
size_there rules kind n below After (is_int1 (byte fits (byte fits1 more)) size) e c = absurd (omega arith)
size_there rules kind n below After (is_int2 no_bytes size) e c = absurd (omega arith)
size_there rules kind n below After (is_int2 (byte fits no_bytes) size) e c = absurd (omega arith)
size_there rules kind n below After (is_int2 (byte {b = a} fits (byte {b = b} fits1 no_bytes)) size) e c =
    elim (counts_as rules.sizes w16 (from_be_bytes w16 (a ∷ b ∷ [])) n e) [
      | inl p ↦ inl (omega arith, (fits1, by_count rules kind _ (λ v. Parts rules below v After) n (a * 256 + b) (omega arith) c))
      | inr q ↦ inr (q.0, omega arith, fits, (fits1, nothing_more rules kind n _ below After q.2 c))
    ]
size_there rules kind n below After (is_int2 (byte fits (byte fits1 (byte fits2 more))) size) e c = absurd (omega arith)
size_there rules kind n below After (is_int4 no_bytes size) e c = absurd (omega arith)
size_there rules kind n below After (is_int4 (byte fits no_bytes) size) e c = absurd (omega arith)
size_there rules kind n below After (is_int4 (byte fits (byte fits1 no_bytes)) size) e c = absurd (omega arith)
size_there rules kind n below After (is_int4 (byte fits (byte fits1 (byte fits2 no_bytes))) size) e c = absurd (omega arith)
size_there rules kind n below After (is_int4 (byte {b = a} fits (byte {b = b} fits1 (byte {b = d} fits2 (byte {b = f} fits3 no_bytes)))) size) e c =
    elim (counts_as rules.sizes w32 (from_be_bytes w32 (a ∷ b ∷ d ∷ f ∷ [])) n e) [
      | inl p ↦ inl (omega arith, (fits1, (fits2, (fits3, by_count rules kind _ (λ v. Parts rules below v After) n (((a * 256 + b) * 256 + d) * 256 + f) (omega arith) c))))
      | inr q ↦ inr (q.0, omega arith, fits, (fits1, (fits2, (fits3, nothing_more rules kind n _ below After q.2 c))))
    ]
size_there rules kind n below After (is_int4 (byte fits (byte fits1 (byte fits2 (byte fits3 (byte fits4 more))))) size) e c = absurd (omega arith)
size_there rules kind n below After (is_int8 bytes size) e c = absurd e

-- from the bytes of a size to the size
pub record SomeSize (rules : Rules) (kind : Kind) (type : WireType) (w : List ℕ) (After : List ℕ → Type 0) : Type 0 where
  pub n : ℕ
  pub number : WireNumber
  pub mid : List ℕ
  pub contents : Number type number w mid
  pub size : IsSizeBy rules.sizes number n
  pub counts : Counted rules kind n mid After

pub size_back : (rules : Rules) (kind : Kind) (type : WireType) (below : List Part) (w : List ℕ) (After : List ℕ → Type 0) → is_size type ≡ true → Parts rules (size_bytes kind type below) w After → SomeSize rules kind type w (λ v. Parts rules below v After)
size_back rules kind wire.ZeroTag below w After t x =
    record { n = 0; number = zero_tag; mid = w; contents = is_zero_tag; size = refl; counts = counted_back rules kind 0 w below After x }
size_back rules kind wire.Int1 below [] After t x = absurd x
size_back rules kind wire.Int1 below (a ∷ w) After t (inl x) =
    record { n = a; number = int1 (signed w8 (a ∷ [])); mid = w; contents = is_int1 (byte (omega arith) no_bytes) refl; size = counts_positive rules.sizes a (signed w8 (a ∷ [])) (to_z_pos w8 a (omega arith)); counts = x.1 }
size_back rules kind wire.Int1 below (a ∷ w) After t (inr x) =
    record { n = 0; number = int1 (signed w8 (a ∷ [])); mid = w; contents = is_int1 (byte x.2 no_bytes) refl; size = counts_negative rules.sizes w8 a x.0 (omega arith); counts = nothing_back rules kind w below After x.3 }
size_back rules kind wire.Int2 below [] After t x = absurd x
size_back rules kind wire.Int2 below (a ∷ []) After t (inl x) = absurd x.1
size_back rules kind wire.Int2 below (a ∷ []) After t (inr x) = absurd x.3
size_back rules kind wire.Int2 below (a ∷ b ∷ w) After t (inl x) =
    record { n = a * 256 + b; number = int2 (signed w16 (a ∷ b ∷ [])); mid = w; contents = is_int2 (byte (omega arith) (byte x.1.0 no_bytes)) refl; size = counts_positive rules.sizes (a * 256 + b) (signed w16 (a ∷ b ∷ [])) (two_bytes a b x.0 x.1.0); counts = x.1.1 }
size_back rules kind wire.Int2 below (a ∷ b ∷ w) After t (inr x) =
    record { n = 0; number = int2 (signed w16 (a ∷ b ∷ [])); mid = w; contents = is_int2 (byte x.2 (byte x.3.0 no_bytes)) refl; size = counts_negative rules.sizes w16 (from_be_bytes w16 (a ∷ b ∷ [])) x.0 (omega arith); counts = nothing_back rules kind w below After x.3.1 }
size_back rules kind wire.Int4 below [] After t x = absurd x
size_back rules kind wire.Int4 below (a ∷ []) After t (inl x) = absurd x.1
size_back rules kind wire.Int4 below (a ∷ []) After t (inr x) = absurd x.3
size_back rules kind wire.Int4 below (a ∷ b ∷ []) After t (inl x) = absurd x.1.1
size_back rules kind wire.Int4 below (a ∷ b ∷ []) After t (inr x) = absurd x.3.1
size_back rules kind wire.Int4 below (a ∷ b ∷ d ∷ []) After t (inl x) = absurd x.1.1.1
size_back rules kind wire.Int4 below (a ∷ b ∷ d ∷ []) After t (inr x) = absurd x.3.1.1
size_back rules kind wire.Int4 below (a ∷ b ∷ d ∷ f ∷ w) After t (inl x) =
    record { n = ((a * 256 + b) * 256 + d) * 256 + f; number = int4 (signed w32 (a ∷ b ∷ d ∷ f ∷ [])); mid = w; contents = is_int4 (byte (omega arith) (byte x.1.0 (byte x.1.1.0 (byte x.1.1.1.0 no_bytes)))) refl; size = counts_positive rules.sizes (((a * 256 + b) * 256 + d) * 256 + f) (signed w32 (a ∷ b ∷ d ∷ f ∷ [])) (four_bytes a b d f x.0 x.1.0 x.1.1.0 x.1.1.1.0); counts = x.1.1.1.1 }
size_back rules kind wire.Int4 below (a ∷ b ∷ d ∷ f ∷ w) After t (inr x) =
    record { n = 0; number = int4 (signed w32 (a ∷ b ∷ d ∷ f ∷ [])); mid = w; contents = is_int4 (byte x.2 (byte x.3.0 (byte x.3.1.0 (byte x.3.1.1.0 no_bytes)))) refl; size = counts_negative rules.sizes w32 (from_be_bytes w32 (a ∷ b ∷ d ∷ f ∷ [])) x.0 (omega arith); counts = nothing_back rules kind w below After x.3.1.1.1 }
size_back rules kind wire.Int8 below w After t x = absurd (false_true t)
size_back rules kind wire.Float below w After t x = absurd (false_true t)
size_back rules kind wire.Double below w After t x = absurd (false_true t)
size_back rules kind wire.String1 below w After t x = absurd (false_true t)
size_back rules kind wire.String4 below w After t x = absurd (false_true t)
size_back rules kind wire.Map below w After t x = absurd (false_true t)
size_back rules kind wire.List below w After t x = absurd (false_true t)
size_back rules kind wire.StructBegin below w After t x = absurd (false_true t)
size_back rules kind wire.StructEnd below w After t x = absurd (false_true t)
size_back rules kind wire.SimpleList below w After t x = absurd (false_true t)
