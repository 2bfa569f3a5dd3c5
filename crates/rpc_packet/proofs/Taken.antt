-- Values that are taken out of a list from the last on, and numbers that are kept by a cast.
use Rattle.std.proofs.Common.{◌≡◌, ◌∙◌, ◌<◌, ◌^◌, ℕ, true, ℤ, pos, negsuc, Some, List, length, get_or, remove, slice_get, sym, ap, subst, w8, w16, w32, w64, to_z, of_z, FitsSigned, ltb-true, lit<, ◌+◌, arith}
use Rattle.std.proofs.lemmas.Int.{to_z-of_z}
use Rattle.std.proofs.lemmas.List.Edits.{get_or-remove_below, length-remove}
use Rattle.std.proofs.lemmas.Option.{get_or_from_slice_get}
use lib.Signed.{mag}
use Rattle.tars_model.specs.Values.{is_signed}
use Rattle.tars_model.specs.declared.value.Value.{Value, Num, out-Value}
use Rattle.rpc_packet.specs.Packets.{bytes_of_layer, bytes_at, texts_of_layer, texts_at}

-- ---- numbers

mag_below : (bits : ℕ) (n : ℤ) → is_signed bits n ≡ true → mag n < 2 ^ bits
mag_below bits (pos n) e = ltb-true n (2 ^ bits) e
mag_below bits (negsuc n) e = ltb-true n (2 ^ bits) e

as_long : (n : ℤ) → mag n < 2 ^ 63 → to_z w64 (of_z w64 n) ≡ n
as_long n h = to_z-of_z w64 n (record { sfits = h })

-- a number `n`, which is `m`
module _ (n m : ℤ) (long : mag n < 2 ^ 63) (is : n ≡ m) where
  long_is : to_z w64 (of_z w64 n) ≡ m
  long_is = as_long n long ∙ is

  pub fits_byte : is_signed 7 m ≡ true → FitsSigned w8 (to_z w64 (of_z w64 n))
  fits_byte e = subst (FitsSigned w8) (sym long_is) (record { sfits = mag_below 7 m e })

  pub byte_kept : is_signed 7 m ≡ true → to_z w8 (of_z w8 (to_z w64 (of_z w64 n))) ≡ m
  byte_kept e = to_z-of_z w8 (to_z w64 (of_z w64 n)) (fits_byte e) ∙ long_is

  pub fits_short : is_signed 15 m ≡ true → FitsSigned w16 (to_z w64 (of_z w64 n))
  fits_short e = subst (FitsSigned w16) (sym long_is) (record { sfits = mag_below 15 m e })

  pub short_kept : is_signed 15 m ≡ true → to_z w16 (of_z w16 (to_z w64 (of_z w64 n))) ≡ m
  short_kept e = to_z-of_z w16 (to_z w64 (of_z w64 n)) (fits_short e) ∙ long_is

  pub fits_int : is_signed 31 m ≡ true → FitsSigned w32 (to_z w64 (of_z w64 n))
  fits_int e = subst (FitsSigned w32) (sym long_is) (record { sfits = mag_below 31 m e })

  pub int_kept : is_signed 31 m ≡ true → to_z w32 (of_z w32 (to_z w64 (of_z w64 n))) ≡ m
  int_kept e = to_z-of_z w32 (to_z w64 (of_z w64 n)) (fits_int e) ∙ long_is

same_byte : (n : ℤ) → mag n < 2 ^ 7 → to_z w8 (of_z w8 n) ≡ n
same_byte n h = to_z-of_z w8 n (record { sfits = h })

same_short : (n : ℤ) → mag n < 2 ^ 15 → to_z w16 (of_z w16 n) ≡ n
same_short n h = to_z-of_z w16 n (record { sfits = h })

same_int : (n : ℤ) → mag n < 2 ^ 31 → to_z w32 (of_z w32 n) ≡ n
same_int n h = to_z-of_z w32 n (record { sfits = h })

pub byte_is : (n m : ℤ) → mag n < 2 ^ 7 → n ≡ m → to_z w8 (of_z w8 n) ≡ m
byte_is n m small is = same_byte n small ∙ is

pub short_is : (n m : ℤ) → mag n < 2 ^ 15 → n ≡ m → to_z w16 (of_z w16 n) ≡ m
short_is n m small is = same_short n small ∙ is

pub int_is : (n m : ℤ) → mag n < 2 ^ 31 → n ≡ m → to_z w32 (of_z w32 n) ≡ m
int_is n m small is = same_int n small ∙ is

-- numbers that are widened keep what they are
module _ (n m : ℤ) (long : mag n < 2 ^ 63) where
  pub wide_byte : n ≡ to_z w8 (of_z w8 m) → mag m < 2 ^ 7 → to_z w64 (of_z w64 n) ≡ m
  wide_byte is small = as_long n long ∙ is ∙ same_byte m small

  pub wide_short : n ≡ to_z w16 (of_z w16 m) → mag m < 2 ^ 15 → to_z w64 (of_z w64 n) ≡ m
  wide_short is small = as_long n long ∙ is ∙ same_short m small

  pub wide_int : n ≡ to_z w32 (of_z w32 m) → mag m < 2 ^ 31 → to_z w64 (of_z w64 n) ≡ m
  wide_int is small = as_long n long ∙ is ∙ same_int m small

-- ---- bytes and texts

abbrev none : Value
none = Num (pos 0)

pub here : (values : List Value) (place : ℕ) (v : Value) → slice_get values place ≡ Some v → get_or values place none ≡ v
here values place v at = get_or_from_slice_get values place v none at

pub bytes_taken : (values : List Value) (place : ℕ) (v : Value) (bytes : List ℕ) → bytes ≡ bytes_of_layer (out-Value v) → slice_get values place ≡ Some v → bytes ≡ bytes_at values place
bytes_taken values place v bytes is at = is ∙ ap (λ (w : Value). bytes_of_layer (out-Value w)) (sym (here values place v at))

-- a value fewer: how many are left, and what the places before say
module _ (values left : List Value) (taken count : ℕ) (rest : left ≡ remove values taken) (long : length values ≡ count + 1) where
  pub one_fewer : taken < length values → length left ≡ count
  one_fewer within = ap length rest ∙ omega (arith, length-remove values taken within, long)

  at_before : (place : ℕ) → place < taken → taken < length values → get_or left place none ≡ get_or values place none
  at_before place earlier within = ap (λ (vs : List Value). get_or vs place none) rest ∙ get_or-remove_below values taken none place earlier within

  pub bytes_before : (place : ℕ) → place < taken → taken < length values → bytes_at left place ≡ bytes_at values place
  bytes_before place earlier within = ap (λ (w : Value). bytes_of_layer (out-Value w)) (at_before place earlier within)

  pub texts_before : (place : ℕ) → place < taken → taken < length values → texts_at left place ≡ texts_at values place
  texts_before place earlier within = ap (λ (w : Value). texts_of_layer (out-Value w)) (at_before place earlier within)

-- what is taken from ten values: places 9, 8, 6 and 5, in this order
module _ (values a b d e : List Value) (long : length values ≡ 10) (first : a ≡ remove values 9) (second : b ≡ remove a 8) (third : d ≡ remove b 6) (fourth : e ≡ remove d 5) where
  pub nine_left : length a ≡ 9
  nine_left = one_fewer values a 9 9 first long (omega (arith, long))

  pub eight_left : length b ≡ 8
  eight_left = one_fewer a b 8 8 second nine_left (omega (arith, nine_left))

  pub seven_left : length d ≡ 7
  seven_left = one_fewer b d 6 7 third eight_left (omega (arith, eight_left))

  pub six_left : length e ≡ 6
  six_left = one_fewer d e 5 6 fourth seven_left (omega (arith, seven_left))

  pub context_stays : texts_at a 8 ≡ texts_at values 8
  context_stays = texts_before values a 9 9 first long 8 (lit< tt) (omega (arith, long))

  pub body_stays : bytes_at b 6 ≡ bytes_at values 6
  body_stays =
      bytes_before a b 8 8 second nine_left 6 (lit< tt) (omega (arith, nine_left)) ∙ bytes_before values a 9 9 first long 6 (lit< tt) (omega (arith, long))

  pub func_stays : bytes_at d 5 ≡ bytes_at values 5
  func_stays =
      bytes_before b d 6 7 third eight_left 5 (lit< tt) (omega (arith, eight_left)) ∙ (bytes_before a b 8 8 second nine_left 5 (lit< tt) (omega (arith, nine_left))
      ∙ bytes_before values a 9 9 first long 5 (lit< tt) (omega (arith, long)))

  pub servant_stays : bytes_at e 4 ≡ bytes_at values 4
  servant_stays =
      bytes_before d e 5 6 fourth seven_left 4 (lit< tt) (omega (arith, seven_left)) ∙ (bytes_before b d 6 7 third eight_left 4 (lit< tt) (omega (arith, eight_left))
      ∙ (bytes_before a b 8 8 second nine_left 4 (lit< tt) (omega (arith, nine_left)) ∙ bytes_before values a 9 9 first long 4 (lit< tt) (omega (arith, long))))

-- what is taken from eight values: places 7 and 6, in this order
module _ (values a b : List Value) (long : length values ≡ 8) (first : a ≡ remove values 7) (second : b ≡ remove a 6) where
  pub seven_of_eight : length a ≡ 7
  seven_of_eight = one_fewer values a 7 7 first long (omega (arith, long))

  pub six_of_eight : length b ≡ 6
  six_of_eight = one_fewer a b 6 6 second seven_of_eight (omega (arith, seven_of_eight))

  pub status_stays : texts_at a 6 ≡ texts_at values 6
  status_stays = texts_before values a 7 7 first long 6 (lit< tt) (omega (arith, long))

  pub response_body_stays : bytes_at b 5 ≡ bytes_at values 5
  response_body_stays =
      bytes_before a b 6 6 second seven_of_eight 5 (lit< tt) (omega (arith, seven_of_eight)) ∙ bytes_before values a 7 7 first long 5 (lit< tt) (omega (arith, long))
