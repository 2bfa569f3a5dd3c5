-- Where the numbers of an old type lie in those that a new one takes, each of them stays.
use Rattle.std.proofs.Common.{◌≡◌, ◌<◌, ◌^◌, ◌-◌, ℕ, Bool, true, false, cond, ltb, leb, ℤ, pos, negsuc, Option, Some, None, Ok, refl, arith}
use Rattle.std.specs.Int.Signed.{le_z}
use Rattle.std.proofs.lemmas.Bool.{and_parts, leb-true, le-leb, ltb-true, lt-ltb}
use Rattle.std.proofs.lemmas.Bool.Decides.{nat_tests}
use Rattle.tars_model.specs.Types.{TyLayer}
use Rattle.tars_model.specs.Values.{is_signed, is_unsigned, is_number_of}
use Rattle.tars_model.specs.declared.ty.Ty.TheOpen as ty
use Rattle.tars_decode.specs.Reads.{number_value}
use Rattle.tars_codec.specs.Written.{bool_number}
use Rattle.tars_versions.specs.Agreement.{agree, mismatch, signed_numbers, unsigned_numbers, numbers_of, numbers_taken, lie_in, numbers_agree}
use Rattle.tars_versions.specs.Projected.{takes, number_under}

-- a number of a range
abbrev pub Within : Option (ℤ × ℤ) → ℤ → Type 0
Within None n = ⊥
Within (Some range) n = (le_z range.0 n ≡ true) × (le_z n range.1 ≡ true)

leb_trans : (a b c : ℕ) → leb a b ≡ true → leb b c ≡ true → leb a c ≡ true
leb_trans a b c e f = grind (arith, nat_tests)

le_trans : (a b c : ℤ) → le_z a b ≡ true → le_z b c ≡ true → le_z a c ≡ true
le_trans (pos a) (pos b) (pos c) e f = leb_trans a b c e f
le_trans (negsuc a) (negsuc b) (negsuc c) e f = leb_trans c b a f e
le_trans (negsuc a) b (pos c) e f = refl
le_trans (pos a) (pos b) (negsuc c) e f = absurd cc
le_trans (pos a) (negsuc b) c e f = absurd cc
le_trans (negsuc a) (pos b) (negsuc c) e f = absurd cc

pub lies_within : (a b : Option (ℤ × ℤ)) (n : ℤ) → lie_in a b ≡ true → Within a n → Within b n
lies_within None b n lie within = absurd within
lies_within (Some inner) None n lie within = absurd cc
lies_within (Some inner) (Some outer) n lie within =
    let parts = and_parts (le_z outer.0 inner.0) (le_z inner.1 outer.1) lie in
    (le_trans outer.0 inner.0 n parts.0 within.0, le_trans n inner.1 outer.1 within.1 parts.1)

below_last : (n m : ℕ) → ltb n m ≡ true → leb n (m - 1) ≡ true
below_last n m e = let lt = ltb-true n m e in le-leb n (m - 1) (omega arith)

last_below : (n m : ℕ) → 0 < m → leb n (m - 1) ≡ true → ltb n m ≡ true
last_below n m some e = let le = leb-true n (m - 1) e in lt-ltb n m (omega arith)

signed_within : (bits : ℕ) (n : ℤ) → is_signed bits n ≡ true → Within (Some (signed_numbers bits)) n
signed_within bits (pos n) e = (refl, below_last n (2 ^ bits) e)
signed_within bits (negsuc n) e = (below_last n (2 ^ bits) e, refl)

unsigned_within : (bits : ℕ) (n : ℤ) → is_unsigned bits n ≡ true → Within (Some (unsigned_numbers bits)) n
unsigned_within bits (pos n) e = (le-leb 0 n (omega arith), below_last n (2 ^ bits) e)
unsigned_within bits (negsuc n) e = absurd cc

within_signed : (bits : ℕ) (n : ℤ) → 0 < 2 ^ bits → Within (Some (signed_numbers bits)) n → is_signed bits n ≡ true
within_signed bits (pos n) some within = last_below n (2 ^ bits) some within.1
within_signed bits (negsuc n) some within = last_below n (2 ^ bits) some within.0

within_unsigned : (bits : ℕ) (n : ℤ) → 0 < 2 ^ bits → Within (Some (unsigned_numbers bits)) n → is_unsigned bits n ≡ true
within_unsigned bits (pos n) some within = last_below n (2 ^ bits) some within.1
within_unsigned bits (negsuc n) some within = absurd (no_unsigned within.0)
  where
    no_unsigned : le_z (pos 0) (negsuc n) ≡ true → ⊥
    no_unsigned e = cc

pub number_within : (l : TyLayer) (n : ℤ) → is_number_of l n ≡ true → Within (numbers_of l) n
number_within ty.Byte n e = signed_within 7 n e
number_within ty.Short n e = signed_within 15 n e
number_within ty.Int n e = signed_within 31 n e
number_within ty.Long n e = signed_within 63 n e
number_within ty.UByte n e = unsigned_within 8 n e
number_within ty.UShort n e = unsigned_within 16 n e
number_within ty.UInt n e = unsigned_within 32 n e
number_within (ty.Enum k) n e = signed_within 31 n e
number_within ty.Bool n e = absurd cc
number_within ty.Text n e = absurd cc
number_within (ty.Struct k) n e = absurd cc
number_within (ty.Vector of) n e = absurd cc
number_within (ty.Map key to) n e = absurd cc

pub bool_within : (b : Bool) → Within (numbers_of ty.Bool) (bool_number b)
bool_within true = (refl, refl)
bool_within false = (refl, refl)

within_taken : (l : TyLayer) (n : ℤ) → Within (numbers_taken l) n → takes l n ≡ true
within_taken ty.Bool n within = within_signed 7 n (omega arith) within
within_taken ty.Byte n within = within_signed 7 n (omega arith) within
within_taken ty.Short n within = within_signed 15 n (omega arith) within
within_taken ty.Int n within = within_signed 31 n (omega arith) within
within_taken ty.Long n within = within_signed 63 n (omega arith) within
within_taken ty.UByte n within = within_unsigned 8 n (omega arith) within
within_taken ty.UShort n within = within_unsigned 16 n (omega arith) within
within_taken ty.UInt n within = within_unsigned 32 n (omega arith) within
within_taken (ty.Enum k) n within = within_signed 31 n (omega arith) within
within_taken ty.Text n within = absurd within
within_taken (ty.Struct k) n within = absurd within
within_taken (ty.Vector of) n within = absurd within
within_taken (ty.Map key to) n within = absurd within

agree_lie : (l l' : TyLayer) → numbers_agree l l' ≡ agree → lie_in (numbers_of l) (numbers_taken l') ≡ true
agree_lie l l' e = by_test (lie_in (numbers_of l) (numbers_taken l')) e
  where
    by_test : (b : Bool) → cond b agree mismatch ≡ agree → b ≡ true
    by_test true e = refl
    by_test false e = absurd cc

-- where types agree, the number of an old value is read
pub number_stays : (l l' : TyLayer) (n : ℤ) → numbers_agree l l' ≡ agree → Within (numbers_of l) n → number_under n l' ≡ Ok (number_value l' n)
number_stays l l' n e within =
    rw (within_taken l' n (lies_within (numbers_of l) (numbers_taken l') n (agree_lie l l' e) within)) refl
