-- The members of packets may be read and written: their tags rise and their defaults fit.
use Rattle.std.proofs.Common.{◌≡◌, ◌∙◌, ◌<◌, ◌^◌, ◌&&◌, true, ℕ, ℤ, pos, List, [], length, refl, ap, arith, rules, lt-ltb}
use Rattle.std.specs.Prelude.{nat_lt}
use Rattle.std.specs.List.{All}
use Rattle.std.proofs.lemmas.List.Elements.{All-from_recursion}
use Rattle.tars_model.proofs.ToldLaws.{told_fits_num, told_fits_text, told_fits_blob, told_fits_map}
use Rattle.tars_model.specs.Declarations.{nothing_declared}
use Rattle.tars_model.specs.Members.{HaveRisingTags}
use Rattle.tars_model.specs.Types.{TyLayer}
use Rattle.tars_model.specs.Values.{is_byte, is_number_of, fits, fits_text, fits_blob, fits_map}
use Rattle.tars_model.specs.declared.ty.Ty.{Ty, out-Ty, Byte, Int, Text as TextTy, Vector, Map as MapTy}
use Rattle.tars_model.specs.declared.ty.Ty.TheOpen as ty
use Rattle.tars_model.specs.declared.ty.Ty.TheVariants.{outs-Byte, outs-Int, outs-Vector, outs-Text, outs-Map}
use Rattle.tars_model.specs.declared.value.Value.{Value, Num, Text, Blob, Map}
use Rattle.tars_decode.specs.Decoding.{DefaultFits, MembersFit}
use Rattle.rpc_packet.specs.Packets.{request_members, response_members}

-- ---- one value

abbrev pub FitsType : Ty → Value → Type 0
FitsType t v = fits nothing_declared t v ≡ true

pub number_fits : (t : Ty) (layer : TyLayer) (n : ℤ) → out-Ty t ≡ layer → is_number_of layer n ≡ true → FitsType t (Num n)
number_fits t layer n is passes = told_fits_num (Num n) nothing_declared t n refl ∙ ap (λ (l : TyLayer). is_number_of l n) is ∙ passes

pub kind_fits : FitsType Byte (Num (pos 0))
kind_fits = number_fits Byte ty.Byte (pos 0) outs-Byte refl

pub zero_fits : FitsType Int (Num (pos 0))
zero_fits = number_fits Int ty.Int (pos 0) outs-Int refl

pub text_fits : (bytes : List ℕ) → length bytes < 2 ^ 32 → FitsType TextTy (Text bytes)
text_fits bytes h = told_fits_text (Text bytes) nothing_declared TextTy bytes refl ∙ ap (fits_text (length bytes)) outs-Text ∙ lt-ltb (length bytes) (2 ^ 32) h

pub blob_fits : (bytes : List ℕ) → length bytes < 2 ^ 31 → FitsType (Vector Byte) (Blob bytes)
blob_fits bytes h =
    told_fits_blob (Blob bytes) nothing_declared (Vector Byte) bytes refl ∙ ap (fits_blob (length bytes)) (outs-Vector Byte)
    ∙ ap (λ (l : TyLayer). is_byte l && nat_lt (length bytes) (2 ^ 31)) outs-Byte ∙ lt-ltb (length bytes) (2 ^ 31) h

pub no_text_fits : FitsType TextTy (Text [])
no_text_fits = text_fits [] (omega arith)

pub no_texts_fit : FitsType (MapTy TextTy TextTy) (Map [])
no_texts_fit = told_fits_map (Map []) nothing_declared (MapTy TextTy TextTy) [] refl ∙ ap (fits_map [] nothing_declared) (outs-Map TextTy TextTy)

-- ---- members

pub request_rises : HaveRisingTags request_members
unfolding request_members
request_rises = search rules

pub response_rises : HaveRisingTags response_members
unfolding response_members
response_rises = search rules

request_defaults : All (DefaultFits nothing_declared) request_members
unfolding request_members
request_defaults =
    All-from_recursion (DefaultFits nothing_declared) request_members
    (λ optional. absurd cc, (λ _. kind_fits, (λ _. zero_fits, (λ optional. absurd cc, (λ optional. absurd cc, (λ optional. absurd cc, (λ optional. absurd cc, (λ _. zero_fits, (λ _. no_texts_fit, (λ _. no_texts_fit, tt))))))))))

pub request_readable : MembersFit nothing_declared request_members
request_readable = record { rising = request_rises; defaults = request_defaults }

response_defaults : All (DefaultFits nothing_declared) response_members
unfolding response_members
response_defaults =
    All-from_recursion (DefaultFits nothing_declared) response_members
    (λ optional. absurd cc, (λ _. kind_fits, (λ optional. absurd cc, (λ _. zero_fits, (λ _. zero_fits, (λ optional. absurd cc, (λ _. no_texts_fit, (λ _. no_text_fits, tt))))))))

pub response_readable : MembersFit nothing_declared response_members
response_readable = record { rising = response_rises; defaults = response_defaults }
