-- The functions of an interface of a schema keep its rules.
use Rattle.std.proofs.Common.{◌≡◌, ◌<◌, ◌≤◌, ℕ, List, length, slice_index_or, Option, Some, None, refl, subst}
use Rattle.std.specs.Prelude.{slice_get}
use Rattle.std.proofs.lemmas.Option.{get_or_from_slice_get, slice_get_within, slice_get_read}
use Rattle.tars_model.specs.Declarations.{Declared}
use Rattle.tars_model.specs.Members.{MAX_PARAMS, arguments_of, reply_members_of}
use Rattle.tars_model.specs.Schemas.{IsSchema}
use Rattle.tars_model.specs.declared.func_desc.FuncDesc.{FuncDesc}
use Rattle.tars_model.specs.declared.interface_desc.InterfaceDesc.{InterfaceDesc}
use Rattle.tars_decode.specs.Decoding.{MembersFit}
use Rattle.servant_core.specs.Functions.{functions_in, functions_of}
use Rattle.servant_core.proofs.Functions.{IsFuncOver, IsInterfaceOver, funcs_over, arguments_fit, reply_fit}

pub func_over : {d : Declared} → IsSchema d → (interface k : ℕ) (func : FuncDesc) → slice_get (functions_of d interface) k ≡ Some func
    → IsFuncOver (length d.enums) (length d.structs) func
func_over {d} schema interface k func found = by_interface (slice_get d.interfaces interface) refl found
  where
    by_interface : (i : Option InterfaceDesc) → slice_get d.interfaces interface ≡ i → slice_get (functions_in i) k ≡ Some func
        → IsFuncOver (length d.enums) (length d.structs) func
    by_interface None is inside = absurd cc
    by_interface (Some i) is inside =
        let over : IsInterfaceOver (length d.enums) (length d.structs) i =
        subst (IsInterfaceOver (length d.enums) (length d.structs)) (get_or_from_slice_get d.interfaces interface i i is)
        (funcs_over schema interface i (slice_get_within d.interfaces interface i is)) in
        subst (IsFuncOver (length d.enums) (length d.structs)) (get_or_from_slice_get i.funcs k func func inside)
        (over.funcs k func (slice_get_within i.funcs k func inside))

pub found_at : (xs ys : List FuncDesc) (k : ℕ) (x : FuncDesc) → xs ≡ ys → k < length ys → x ≡ slice_index_or xs k x → slice_get ys k ≡ Some x
found_at xs ys k x same within is = slice_get_read ys (length ys) k x refl within (subst (λ (zs : List FuncDesc). x ≡ slice_index_or zs k x) same is)

module _ {d : Declared} (schema : IsSchema d) (interface k : ℕ) (func : FuncDesc) (found : slice_get (functions_of d interface) k ≡ Some func) where
  pub params_few : length func.params ≤ MAX_PARAMS
  params_few = (func_over schema interface k func found).few

  pub arguments_at_fit : MembersFit d (arguments_of func)
  arguments_at_fit = arguments_fit d func (func_over schema interface k func found)

  pub reply_at_fit : MembersFit d (reply_members_of func)
  reply_at_fit = reply_fit d func (func_over schema interface k func found)
