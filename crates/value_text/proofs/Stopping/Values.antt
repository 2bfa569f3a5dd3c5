-- Where a reader of values meets an unexpected byte, the text of its type gets stuck.
use Rattle.std.proofs.Common.{◌≡◌, ℕ, zero, suc, Bool, true, false, cond, List, [], ◌∷◌, Err, refl, sym, ap, ◌∙◌, subst, arith}
use Rattle.std.proofs.lemmas.List.{nil_from_length}
use Rattle.tars_model.specs.Declarations.{Declared}
use Rattle.tars_model.specs.Schemas.{IsSchema}
use Rattle.tars_model.specs.Types.{TyLayer}
use Rattle.tars_model.specs.Values.{is_byte}
use Rattle.tars_model.specs.declared.ty.Ty.{Ty, out-Ty}
use Rattle.tars_model.specs.declared.ty.Ty.TheOpen as ty
use Rattle.tars_model.specs.declared.value.Value.{Value}
use Rattle.tars_model.specs.declared.value.Value.TheVariants as values
use Rattle.value_text.specs.Answers.{IsEnd}
use Rattle.value_text.specs.ReadSteps.{Read, number_at, truth_at, text_at, blob_at}
use Rattle.value_text.specs.ValueSteps.{list_at, vector_at, value_by, value_at}
use Rattle.value_text.specs.Spelling.{has_numbers}
use Rattle.value_text.specs.Spelling as spelling
use Rattle.value_text.specs.declared.value_fault.ValueWhy.TheVariants.{Unexpected}
use Rattle.value_text.proofs.MapSound.{value_sound}
use Rattle.value_text.proofs.Sound.{Sound}
use Rattle.value_text.proofs.Moving.Shapes.{NumberShape, shape_at, blob_shape, is_number_shape}
use Rattle.value_text.proofs.Stopping.Blobs.{Blobs, stuck_in_blob}
use Rattle.value_text.proofs.Stopping.ItemNames.{item_names}
use Rattle.value_text.proofs.Stopping.Languages.{Stuck, Then, Word, stuck_as, stuck_at_end}
use Rattle.value_text.proofs.Stopping.Lists.{Sticks, stuck_in_list}
use Rattle.value_text.proofs.Stopping.Maps.{stuck_in_map}
use Rattle.value_text.proofs.Stopping.Passing.{Formed, formed_filled, formed_some}
use Rattle.value_text.proofs.Stopping.Plain.{Truth, stuck_in_truth, stuck_in_number_of}
use Rattle.value_text.proofs.Stopping.Signs.{stop, stops_so}
use Rattle.value_text.proofs.Stopping.Structs.{stuck_in_struct}
use Rattle.value_text.proofs.Stopping.Texts.{Texts, stuck_in_text}

module _ (d : Declared) (schema : IsSchema d) (room : ℕ) (f : Ty → List ℕ → Read Value) (sound : (t : Ty) → Sound d t (f t)) (sticks : (t : Ty) → Sticks d t room (f t)) (t : Ty) where
  truth_sticks : out-Ty t ≡ ty.Bool → Sticks d t (suc room) truth_at
  truth_sticks is bytes left within e =
      stuck_as Truth (Formed d t) (λ tail ends. ends) (λ b r x. (values.Bool x.0, spelling.truth x.0 is refl x.1)) (λ b r v. shape_at ty.Bool is v.1) (stuck_in_truth bytes left Unexpected e)

  text_sticks : out-Ty t ≡ ty.Text → Sticks d t (suc room) text_at
  text_sticks is bytes left within e =
      stuck_as (Then (Word (34 ∷ [])) Texts) (Formed d t) (λ tail ends. tt)
      (λ b r x. (values.Text x.second.0, spelling.text x.second.0 x.between is refl x.first x.second.1))
      (λ b r v. let s = shape_at ty.Text is v.1 in record { between = s.0; first = s.1; second = (s.2, s.3) })
      (stuck_in_text bytes left Unexpected e)

  blob_sticks : (of : Ty) → out-Ty t ≡ ty.Vector of → is_byte (out-Ty of) ≡ true → Sticks d t (suc room) blob_at
  blob_sticks of is byte bytes left within e =
      stuck_as (Then (Word (35 ∷ [])) Blobs) (Formed d t) (λ tail ends. ends)
      (λ b r x. (values.Blob x.second.0, spelling.blob of x.second.0 x.between is byte refl x.first x.second.1))
      (λ b r v. let s = blob_shape of is byte v.1 in record { between = s.0; first = s.1; second = (s.2, s.3) })
      (stuck_in_blob bytes left Unexpected e)

  vector_sticks : (of : Ty) → out-Ty t ≡ ty.Vector of → Sticks d t (suc room) (vector_at f of)
  vector_sticks of is bytes left within e = by_elements (is_byte (out-Ty of)) refl e
    where
      by_elements : (b : Bool) → is_byte (out-Ty of) ≡ b → cond b (blob_at bytes) (list_at (f of) bytes) ≡ Err (stop left Unexpected) → Stuck IsEnd (Formed d t) bytes left
      by_elements true byte e = blob_sticks of is byte bytes left within e
      by_elements false other e = stuck_in_list d of t is other schema room (f of) (sound of) (sticks of) bytes left within e

  number_sticks : (l : TyLayer) → out-Ty t ≡ l → has_numbers l ≡ true → Sticks d t (suc room) (number_at d l)
  number_sticks l is has bytes left within e =
      stuck_as (NumberShape d l) (Formed d t) (λ tail ends. ends)
      (λ b r n. (values.Num n.0, spelling.number n.0 (ap has_numbers is ∙ has) refl (subst (λ (k : TyLayer). spelling.SaysNumber d k n.0 b r) (sym is) n.1)))
      (λ b r v. is_number_shape d l b r has (shape_at l is v.1))
      (stuck_in_number_of d (item_names d schema) l bytes left e)

  by_layer : (l : TyLayer) → out-Ty t ≡ l → Sticks d t (suc room) (value_by d f l)
  by_layer ty.Bool is = truth_sticks is
  by_layer ty.Text is = text_sticks is
  by_layer (ty.Vector of) is = vector_sticks of is
  by_layer (ty.Map key to) is = stuck_in_map d key to t is schema room (f key) (f to) (sound key) (sound to) (sticks key) (sticks to)
  by_layer (ty.Struct k) is = stuck_in_struct d schema room f sound sticks t k is
  by_layer ty.Byte is = number_sticks ty.Byte is refl
  by_layer ty.Short is = number_sticks ty.Short is refl
  by_layer ty.Int is = number_sticks ty.Int is refl
  by_layer ty.Long is = number_sticks ty.Long is refl
  by_layer ty.UByte is = number_sticks ty.UByte is refl
  by_layer ty.UShort is = number_sticks ty.UShort is refl
  by_layer ty.UInt is = number_sticks ty.UInt is refl
  by_layer (ty.Enum k) is = number_sticks (ty.Enum k) is refl

pub stuck_at : (room : ℕ) (d : Declared) → IsSchema d → (t : Ty) → Sticks d t room (value_at room d t)
unfolding value_at
stuck_at zero d schema t bytes left within e =
    let none = nil_from_length bytes (omega arith) in
    subst (Stuck IsEnd (Formed d t) bytes) (stops_so {A = Value × List ℕ} bytes left Unexpected Unexpected e).0
    (subst (λ (b : List ℕ). Stuck IsEnd (Formed d t) b b) (sym none) (stuck_at_end (Formed d t) (formed_some d t) (formed_filled d schema t)))
stuck_at (suc room) d schema t bytes left within e = by_layer d schema room (value_at room d) (value_sound room d) (stuck_at room d schema) t (out-Ty t) refl bytes left within e
