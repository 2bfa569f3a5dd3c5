-- The functions of a schema's interfaces, and their parameters.
use Rattle.std.proofs.Common.{◌≡◌, ℕ, [], ◌∷◌, slice_get, Option, Some, None, refl, sym, subst, arith}
use Rattle.std.specs.List.{All}
use Rattle.std.proofs.lemmas.List.Elements.{All-append, All-cons, All-nil}
use Rattle.servant_core.specs.Functions.{functions_in, functions_of}
use Rattle.tars_model.specs.Declarations.{Declared}
use Rattle.tars_model.specs.Schemas.{IsSchema, InterfaceFits}
use Rattle.tars_model.specs.Schemas as made
use Rattle.tars_model.specs.declared.func_desc.FuncDesc.{FuncDesc}
use Rattle.tars_model.specs.declared.interface_desc.InterfaceDesc.{InterfaceDesc}
use Rattle.script_rules.specs.Functions.{AreFuncs, AreParams}
use Rattle.script_rules.proofs.Names.{all_at}

record IsInterface (i : InterfaceDesc) : Type 0 where
  funcs : AreFuncs i.funcs
  params : All (λ (f : FuncDesc). AreParams f.params) i.funcs

interface_is : (d : Declared) (i : InterfaceDesc) → InterfaceFits d i → IsInterface i
interface_is d i fits = record {
  funcs = record { few = fits.few; names_differ = fits.names_differ };
  params = λ k f within. let g = fits.funcs k f within in record { few = g.few; names_differ = g.names_differ };
}

abbrev Interfaces : Declared → Type 0
Interfaces d = All IsInterface d.interfaces

interfaces_are : {d : Declared} → IsSchema d → Interfaces d
interfaces_are (made.nothing is) = subst Interfaces (sym is) (All-nil IsInterface)
interfaces_are (made.struct schema fits is) = subst Interfaces (sym is) (interfaces_are schema)
interfaces_are (made.enum schema fits is) = subst Interfaces (sym is) (interfaces_are schema)
interfaces_are (made.const schema fits is) = subst Interfaces (sym is) (interfaces_are schema)
interfaces_are (made.key schema fits is) = subst Interfaces (sym is) (interfaces_are schema)
interfaces_are (made.interface {d = d} {i = i} schema fits is) =
    subst Interfaces (sym is)
    (All-append IsInterface d.interfaces (i ∷ []) (interfaces_are schema) (All-cons IsInterface i [] (interface_is d i fits) (All-nil IsInterface)))

pub schema_funcs : (d : Declared) (interface : ℕ) → IsSchema d → AreFuncs (functions_of d interface)
schema_funcs d interface schema = by_place (slice_get d.interfaces interface) refl
  where
    by_place : (i : Option InterfaceDesc) → slice_get d.interfaces interface ≡ i → AreFuncs (functions_in i)
    by_place None is = record { few = omega arith; names_differ = tt }
    by_place (Some i) is = (all_at IsInterface d.interfaces interface i (interfaces_are schema) is).funcs

pub schema_params : (d : Declared) (interface k : ℕ) (func : FuncDesc) → IsSchema d → slice_get (functions_of d interface) k ≡ Some func → AreParams func.params
schema_params d interface k func schema found = by_place (slice_get d.interfaces interface) refl found
  where
    by_place : (i : Option InterfaceDesc) → slice_get d.interfaces interface ≡ i → slice_get (functions_in i) k ≡ Some func → AreParams func.params
    by_place None is inside = absurd cc
    by_place (Some i) is inside =
        all_at (λ (f : FuncDesc). AreParams f.params) i.funcs k func (all_at IsInterface d.interfaces interface i (interfaces_are schema) is).params inside
