-- The interfaces of a schema and their functions.
use Rattle.std.proofs.Common.{◌≡◌, ◌<◌, ◌≤◌, ℕ, suc, List, [], ◌∷◌, ◌++◌, length, length-append, slice_get, slice_index_or, Option, Some, None, refl, sym, ap, subst, arith, lit≤}
use Rattle.std.proofs.lemmas.Option.{slice_get_read, slice_get_past}
use Rattle.servant_core.specs.Functions.{functions_in, functions_of}
use Rattle.tars_model.specs.Declarations.{Declared}
use Rattle.tars_model.specs.Schemas.{IsSchema}
use Rattle.tars_model.specs.Schemas as made
use Rattle.tars_model.specs.declared.func_desc.FuncDesc.{FuncDesc}
use Rattle.tars_model.specs.declared.interface_desc.InterfaceDesc.{InterfaceDesc}
use Rattle.script_rules.proofs.SchemaFuncs.{schema_funcs, schema_params}
use Rattle.script_load.specs.LineSteps.{AreTheFuncs}

pub schema_are : (d : Declared) (interface : ℕ) → IsSchema d → AreTheFuncs (functions_of d interface)
schema_are d interface schema = record {
  names = schema_funcs d interface schema;
  params = λ k func found. schema_params d interface k func schema found;
}

-- the functions of each interface are as those of a schema's
abbrev pub HasFuncs : Declared → Type 0
HasFuncs d = (interface : ℕ) → AreTheFuncs (functions_of d interface)

pub schema_has : (d : Declared) → IsSchema d → HasFuncs d
schema_has d schema interface = schema_are d interface schema

-- none are none of a schema's, too
pub no_funcs_are : AreTheFuncs []
no_funcs_are = record { names = record { few = lit≤ tt; names_differ = tt }; params = λ k func found. absurd (nowhere k func found) }
  where
    nowhere : (k : ℕ) (func : FuncDesc) → slice_get [] k ≡ Some func → ⊥
    nowhere k func found = cc

pub funcs_found : (d : Declared) (interface : ℕ) (found : Option InterfaceDesc) → slice_get d.interfaces interface ≡ found → functions_of d interface ≡ functions_in found
funcs_found d interface found is = ap functions_in is

-- what a slice holds at a place
pub found_in : {A : Type 0} (xs ys : List A) (k : ℕ) (x : A) → xs ≡ ys → k < length xs → x ≡ slice_index_or xs k x → slice_get ys k ≡ Some x
found_in {A = A} xs ys k x same within is = subst (λ (zs : List A). slice_get zs k ≡ Some x) same (slice_get_read xs (length xs) k x refl within is)

pub past_in : {A : Type 0} (xs ys : List A) (k : ℕ) → xs ≡ ys → length xs ≤ k → slice_get ys k ≡ None
past_in {A = A} xs ys k same past = subst (λ (zs : List A). slice_get zs k ≡ None) same (slice_get_past xs k past)

-- ---- how many interfaces there are

abbrev Few : Declared → Type 0
Few d = length d.interfaces ≤ 256

pub are_few : (d : Declared) → IsSchema d → Few d
are_few d (made.nothing is) = subst Few (sym is) (omega arith)
are_few d (made.struct {d = b} h fits is) = subst Few (sym is) (are_few b h)
are_few d (made.enum {d = b} h fits is) = subst Few (sym is) (are_few b h)
are_few d (made.const {d = b} h fits is) = subst Few (sym is) (are_few b h)
are_few d (made.key {d = b} h fits is) = subst Few (sym is) (are_few b h)
are_few d (made.interface {d = b} {i = i} h fits is) = subst Few (sym is) (one_more b.interfaces i fits.room)
  where
    one_more : (xs : List InterfaceDesc) (x : InterfaceDesc) → suc (length xs) ≤ 256 → length (xs ++ x ∷ []) ≤ 256
    one_more xs x room = omega (arith, length-append xs (x ∷ []), room)
