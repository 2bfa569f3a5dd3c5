-- A file that says a schema has no fault, and means the schema.
use Rattle.std.proofs.Common.{◌≡◌, ℕ, List, [], ◌∷◌, ◌++◌, map, refl, sym, subst, append-nil}
use Rattle.std.specs.List.{flat_map}
use Rattle.tars_model.specs.Declarations.{Declared, nothing_declared}
use Rattle.tars_model.specs.Names.{IsName}
use Rattle.tars_model.specs.Schemas as made
use Rattle.tars_model.specs.Schemas.{IsSchema}
use Rattle.tars_model.specs.declared.decl.Decl.{Decl}
use Rattle.canonical_tree.specs.Says.{NameSays, Pairwise, HomeSays, EntriesSay, none, block as said_block}
use Rattle.idl_lex.specs.declared.span.Span.{Span}
use Rattle.idl_parse.specs.declared.tree.module.Entry.{Entry}
use Rattle.idl_parse.specs.declared.tree.module.Entry.TheVariants.{Module}
use Rattle.idl_parse.specs.declared.tree.module.ModuleTree.{ModuleTree}
use Rattle.idl_scene.specs.Items.{Item, item, block, declared_item, entry_items, items_of, word}
use Rattle.idl_scene.specs.Known.{Scene}
use Rattle.idl_rules.specs.Conditions.{State, at_first, scene_at, faults_of}
use Rattle.idl_rules.specs.Rules.{reserved}
use Rattle.idl_schema.specs.Agreement.{Agrees, no_type_meant}
use Rattle.idl_schema.specs.SchemaOf.{schema_of}
use Rattle.idl_check.proofs.Finding.{alone_finds}
use Rattle.idl_check.proofs.Grown.{grown, all_there}
use Rattle.idl_check.proofs.KnownNames.{nothing_known}
use Rattle.idl_check.proofs.NamesFree.{free_here}
use Rattle.idl_check.proofs.Passing.{Passes}
use Rattle.idl_check.proofs.Quiet.{nothing_found}
use Rattle.idl_check.proofs.Walked.{Reached, Walked, walked_on, walked}

-- ---- blocks

block_passes : (s : Scene) (name : Span) → IsName (word s.text name) → Passes s (block name)
block_passes s name is = record {
  no_fault = record {
    reserved_block = alone_finds (reserved s) [] (name ∷ []) (free_here s name is, tt);
    twice_declared = refl;
    reserved_name = refl;
    deep_struct = refl;
    too_many = refl;
    large_default = refl;
    unknown_type = refl;
    float = refl;
    bad_key = refl;
    deep_type = refl;
    unsigned_bytes = refl;
    twice_in_list = refl;
    reserved_in_list = refl;
    too_many_in_list = refl;
    twice_tag = refl;
    tag_range = refl;
    bad_default = refl;
    bad_number = refl;
    bad_const = refl;
    unknown_struct = refl;
    unknown_members = refl;
  };
  no_include = refl;
  array = refl;
  routekey = refl;
}

module _ (d : Declared) (file : ℕ) (text : List ℕ) where
  abbrev items_in : List Entry → List Item
  items_in entries = flat_map (entry_items file text []) entries

  block_walked : (state : State) (e : Declared) (m : ModuleTree) (home : List ℕ) (these left : List Decl) → IsName home → NameSays text home m.name → Pairwise (HomeSays text d home) these m.decls → Reached d state e (these ++ left)
      → Walked d state e (entry_items file text [] (Module m)) left
  block_walked state e m home these left is_name says decls r =
      let own : List ℕ = word text m.name in
      walked_on d state e (item file text own (block m.name) ∷ []) (map (declared_item file text own) m.decls) (these ++ left) left
      (record {
        pass = (block_passes (scene_at state (item file text own (block m.name))) m.name (subst IsName (sym says.is) is_name), tt);
        reached = record { schema = r.schema; grows = r.grows; agrees = r.agrees; knows = r.knows; order = r.order };
      })
      (λ r. walked d file text own state e these left m.decls (subst (λ h. Pairwise (HomeSays text d h) these m.decls) (sym says.is) decls) r)

  entries_walked : {entries : List Entry} {order : List Decl} → EntriesSay text d entries order → (state : State) (e : Declared) → Reached d state e order → Walked d state e (items_in entries) []
  entries_walked none state e r = record { pass = tt; reached = r }
  entries_walked (said_block {home = home} {m = m} {later = later} these rest is_name is says decls after) state e r =
      walked_on d state e (entry_items file text [] (Module m)) (items_in later) rest []
      (block_walked state e m home these rest is_name says decls (subst (λ order. Reached d state e order) is r))
      (λ r. entries_walked after _ _ r)

-- ---- the schema

nothing_agrees : Agrees at_first nothing_declared
nothing_agrees = record {
  means = λ home name. no_type_meant refl refl refl;
  taken = tt;
  structs = refl;
  enums = refl;
  consts = refl;
  interfaces = refl;
}

pub says_schema : (name text : List ℕ) (d : Declared) (entries : List Entry) → IsSchema d → EntriesSay text d entries d.order
    → (faults_of (record { name = name; text = text; entries = entries } ∷ []) ≡ []) × (schema_of (record { name = name; text = text; entries = entries } ∷ []) ≡ d)
says_schema name text d entries schema says =
    let start : Reached d at_first nothing_declared d.order = record {
      schema = made.nothing refl;
      grows = grown d schema;
      agrees = nothing_agrees;
      knows = nothing_known;
      order = refl;
    } in
    let all : Walked d at_first nothing_declared (items_in d 0 text entries) [] = entries_walked d 0 text says at_first nothing_declared start in
    let walk : Walked d at_first nothing_declared (items_of (record { name = name; text = text; entries = entries } ∷ [])) [] = subst (λ items. Walked d at_first nothing_declared items []) (sym (append-nil (items_in d 0 text entries))) all in
    (nothing_found (items_of (record { name = name; text = text; entries = entries } ∷ [])) walk.pass, all_there d walk.reached.grows walk.reached.order)
