-- The functions of what is loaded from interface files are as those of a schema's, whatever numbers the files hold.
use Rattle.std.proofs.Common.{◌≡◌, ℕ, Option, Some, None, List, slice_get, refl}
use Rattle.script_lines.specs.Scripts.{Script}
use Rattle.script_rules.proofs.Names.{all_at}
use Rattle.schema_files.specs.SchemaLoading.{LoadsSchema}
use Rattle.schema_files.specs.SchemaLoading as schema
use Rattle.schema_kept.proofs.Interfaces.{IsMade, loaded_interfaces}
use Rattle.servant_core.specs.Functions.{functions_in}
use Rattle.tars_base.specs.Contents.{Contents}
use Rattle.tars_model.specs.Declarations.{Declared}
use Rattle.tars_model.specs.Schemas.{FuncFits, InterfaceFits}
use Rattle.tars_model.specs.declared.interface_desc.InterfaceDesc.{InterfaceDesc}
use Rattle.script_load.specs.LineSteps.{AreTheFuncs}
use Rattle.script_load.specs.SidesLoading.{LoadsSides, sides, one_file, two_files}
use Rattle.script_load.proofs.SchemaSides.{HasFuncs, no_funcs_are}

made_are : (d : Declared) (i : InterfaceDesc) → InterfaceFits d i → AreTheFuncs i.funcs
made_are d i fits = record {
  names = record { few = fits.few; names_differ = fits.names_differ };
  params = λ k func found.
      let own = all_at (FuncFits d) i.funcs k func fits.funcs found in
      record { few = own.few; names_differ = own.names_differ };
}

loaded_has : (contents : Contents) (file : List ℕ) (d : Declared) → LoadsSchema contents file (schema.declared d) → HasFuncs d
loaded_has contents file d loads interface = by_place (slice_get d.interfaces interface) refl
  where
    by_place : (i : Option InterfaceDesc) → slice_get d.interfaces interface ≡ i → AreTheFuncs (functions_in i)
    by_place None is = no_funcs_are
    by_place (Some i) is =
        let made = all_at IsMade d.interfaces interface i (loaded_interfaces contents file d loads) is in
        made_are made.0 i made.1

-- so on both sides
pub sides_have : (first later : Contents) (s : Script) (client server : Declared) → LoadsSides first later s (sides client server) → HasFuncs client × HasFuncs server
sides_have first later s client server (one_file _ loads is) = (loaded_has first s.client client loads, loaded_has first s.client client loads)
sides_have first later s client server (two_files _ _ file loads is own) = (loaded_has first s.client client loads, loaded_has later file server own)
