-- What is told of the values of packets' members: how many they are, and how large numbers, texts and bytes are.
use Rattle.std.proofs.Common.{◌≡◌, ◌∙◌, ◌<◌, ◌^◌, ℕ, zero, suc, true, pos, List, [], ◌∷◌, length, take, drop, get_or, sym, refl, ap, arith, lit<, ltb-true}
use Rattle.std.proofs.lemmas.Bool.{and_from, and_parts}
use Rattle.tars_model.specs.Declarations.{nothing_declared}
use Rattle.tars_model.specs.Types.{TyLayer}
use Rattle.tars_model.specs.Values.{Told, told, told_entry, told_layer, is_number_of, is_signed, fits, fits_text, fits_blob, fit_members}
use Rattle.tars_model.specs.declared.member.Member.{Member}
use Rattle.tars_model.specs.declared.ty.Ty.{Ty, out-Ty, Byte, Short, Int, Text as TextTy, Vector}
use Rattle.tars_model.specs.declared.ty.Ty.TheOpen as ty
use Rattle.tars_model.specs.declared.ty.Ty.TheVariants.{outs-Byte, outs-Short, outs-Int, outs-Vector, outs-Text}
use Rattle.tars_model.specs.declared.value.Pair.{Pair}
use Rattle.tars_model.specs.declared.value.Value.{Value, out-Value, map-Value}
use Rattle.tars_model.specs.declared.value.Value.TheOpen as value
use Rattle.tars_model.proofs.CallerLemmas.{told_out}
use Rattle.rpc_packet.specs.Packets.{number_of_layer, bytes_of_layer}

-- ---- as many values as members, each of its member's type

pub as_many : (members : List Member) (values : List Value) → fit_members nothing_declared members values ≡ true → length values ≡ length members
as_many [] [] e = refl
as_many [] (v ∷ vs) e = absurd cc
as_many (m ∷ ms) [] e = absurd cc
as_many (m ∷ ms) (v ∷ vs) e = ap suc (as_many ms vs (and_parts _ _ e).1)

pub fits_at : (members : List Member) (values : List Value) (k : ℕ) (m : Member) (v : Value) → fit_members nothing_declared members values ≡ true → k < length members → fits nothing_declared (get_or members k m).ty (get_or values k v) ≡ true
fits_at [] values k m v e within = absurd (omega arith)
fits_at (n ∷ ms) [] k m v e within = absurd cc
fits_at (n ∷ ms) (w ∷ vs) zero m v e within = (and_parts _ _ e).0
fits_at (n ∷ ms) (w ∷ vs) (suc k) m v e within = fits_at ms vs k m v (and_parts _ _ e).1 (omega (arith, within))

-- parts of values fit these parts of members
pub fit_drop : (k : ℕ) (members : List Member) (values : List Value) → fit_members nothing_declared members values ≡ true → fit_members nothing_declared (drop k members) (drop k values) ≡ true
fit_drop zero members values e = e
fit_drop (suc k) [] [] e = refl
fit_drop (suc k) [] (v ∷ vs) e = absurd cc
fit_drop (suc k) (m ∷ ms) [] e = absurd cc
fit_drop (suc k) (m ∷ ms) (v ∷ vs) e = fit_drop k ms vs (and_parts _ _ e).1

pub fit_take : (k : ℕ) (members : List Member) (values : List Value) → fit_members nothing_declared members values ≡ true → fit_members nothing_declared (take k members) (take k values) ≡ true
fit_take zero members values e = refl
fit_take (suc k) [] [] e = refl
fit_take (suc k) [] (v ∷ vs) e = absurd cc
fit_take (suc k) (m ∷ ms) [] e = absurd cc
fit_take (suc k) (m ∷ ms) (v ∷ vs) e = and_from _ _ (and_parts _ _ e).0 (fit_take k ms vs (and_parts _ _ e).1)

-- ---- one value

abbrev pub told_of : value.Value-F Value Pair → Told
told_of l = told_layer (map-Value Value Pair Told (Told × Told) told told_entry l)

module _ (t : Ty) (layer : TyLayer) (is : out-Ty t ≡ layer) (v : Value) (fit : fits nothing_declared t v ≡ true) where
  pub fits_out : (told_of (out-Value v)).fits nothing_declared t ≡ true
  fits_out = sym (ap (λ (w : Told). w.fits nothing_declared t) (told_out v)) ∙ fit

  number_within : is_number_of layer (pos 0) ≡ true → is_number_of layer (number_of_layer (out-Value v)) ≡ true
  number_within none = by_layer (out-Value v) fits_out
    where
      by_layer : (l : value.Value-F Value Pair) → (told_of l).fits nothing_declared t ≡ true → is_number_of layer (number_of_layer l) ≡ true
      by_layer (value.Num n) e = sym (ap (λ (x : TyLayer). is_number_of x n) is) ∙ e
      by_layer (value.Bool b) e = none
      by_layer (value.Text bytes) e = none
      by_layer (value.Blob bytes) e = none
      by_layer (value.List vs) e = none
      by_layer (value.Map ps) e = none
      by_layer (value.Struct vs) e = none

  bytes_within : (most : ℕ) → 0 < most → ((size : ℕ) → fits_text size layer ≡ true → size < most) → ((size : ℕ) → fits_blob size layer ≡ true → size < most) → length (bytes_of_layer (out-Value v)) < most
  bytes_within most some text blob = by_layer (out-Value v) fits_out
    where
      by_layer : (l : value.Value-F Value Pair) → (told_of l).fits nothing_declared t ≡ true → length (bytes_of_layer l) < most
      by_layer (value.Text bytes) e = text (length bytes) (sym (ap (fits_text (length bytes)) is) ∙ e)
      by_layer (value.Blob bytes) e = blob (length bytes) (sym (ap (fits_blob (length bytes)) is) ∙ e)
      by_layer (value.Num n) e = some
      by_layer (value.Bool b) e = some
      by_layer (value.List vs) e = some
      by_layer (value.Map ps) e = some
      by_layer (value.Struct vs) e = some

pub byte_within : (v : Value) → fits nothing_declared Byte v ≡ true → is_signed 7 (number_of_layer (out-Value v)) ≡ true
byte_within v fit = number_within Byte ty.Byte outs-Byte v fit refl

pub short_within : (v : Value) → fits nothing_declared Short v ≡ true → is_signed 15 (number_of_layer (out-Value v)) ≡ true
short_within v fit = number_within Short ty.Short outs-Short v fit refl

pub int_within : (v : Value) → fits nothing_declared Int v ≡ true → is_signed 31 (number_of_layer (out-Value v)) ≡ true
int_within v fit = number_within Int ty.Int outs-Int v fit refl

pub text_within : (v : Value) → fits nothing_declared TextTy v ≡ true → length (bytes_of_layer (out-Value v)) < 2 ^ 32
text_within v fit = bytes_within TextTy ty.Text outs-Text v fit (2 ^ 32) (lit< tt) (λ size e. ltb-true size (2 ^ 32) e) (λ size e. absurd cc)

pub blob_within : (v : Value) → fits nothing_declared (Vector Byte) v ≡ true → length (bytes_of_layer (out-Value v)) < 2 ^ 31
blob_within v fit =
    bytes_within (Vector Byte) (ty.Vector Byte) (outs-Vector Byte) v fit (2 ^ 31) (lit< tt) (λ size e. absurd cc)
    (λ size e. ltb-true size (2 ^ 31) (and_parts _ _ e).1)
