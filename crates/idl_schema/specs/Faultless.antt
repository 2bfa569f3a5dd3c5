-- For the proofs: what no rule refuses.
use Rattle.std.specs.Prelude.{◌≡◌, ◌<◌, ◌^◌, ◌+◌, ℕ, List, [], ◌∷◌, ◌++◌, map, fold, length}
use Rattle.std.specs.List.{All, AllByRecursion, flat_map}
use Rattle.least_fault.specs.Conditions.{found_after}
use Rattle.idl_scene.specs.Items.{Item, What, item, declared, entry_items, items_from, word}
use Rattle.idl_scene.specs.Known.{Scene}
use Rattle.idl_scene.specs.Types as types
use Rattle.idl_rules.specs.Conditions.{State, Rule, alone, at_layer, each_name, scene_at, state_with}
use Rattle.idl_rules.specs.Parts.{blocks_of, declarations_of, types_of, name_lists_of, members_of, enumerators_of, consts_of, keys_of}
use Rattle.idl_rules.specs.Rules as rule
use Rattle.tars_model.specs.Declarations.{Declared}
use Rattle.tars_model.specs.Names.{IsName}
use Rattle.idl_parse.specs.Files.{File}
use Rattle.idl_parse.specs.Nesting.{DeclNests, EntryNests}
use Rattle.idl_parse.specs.TreeSpans.{DeclIn, EntryIn}
use Rattle.idl_parse.specs.declared.tree.module.Entry.{Entry}
use Rattle.idl_parse.specs.declared.tree.module.Entry.TheVariants.{Include, Module}
use Rattle.idl_parse.specs.declared.tree.decl.DeclTree.{DeclTree}
use Rattle.idl_schema.specs.Agreement.{Agrees}
use Rattle.idl_schema.specs.SchemaOf.{place_of, with_decl}

-- a rule finds nothing in parts
abbrev pub Finds : {Part : Type 0} → Rule Part → Scene → List Part → Type 0
Finds rule s parts = found_after (rule s) [] parts ≡ []

-- no rule that judges declarations finds anything in what is said
pub record NoFault (s : Scene) (what : What) : Type 0 where
  pub reserved_block : Finds (alone rule.reserved) s (blocks_of what)
  pub twice_declared : Finds (alone rule.twice_declared) s (declarations_of what)
  pub reserved_name : Finds (alone rule.reserved_name) s (declarations_of what)
  pub deep_struct : Finds (alone rule.deep_struct) s (declarations_of what)
  pub too_many : Finds (alone rule.too_many) s (declarations_of what)
  pub large_default : Finds (alone rule.large_default) s (declarations_of what)
  pub unknown_type : Finds (at_layer types.unknown_type) s (types_of what)
  pub float : Finds (at_layer types.float) s (types_of what)
  pub bad_key : Finds (at_layer types.bad_key) s (types_of what)
  pub deep_type : Finds (alone types.deep_type) s (types_of what)
  pub unsigned_bytes : Finds (at_layer types.unsigned_bytes) s (types_of what)
  pub twice_in_list : Finds (each_name rule.twice_in_list) s (name_lists_of what)
  pub reserved_in_list : Finds (each_name rule.reserved_in_list) s (name_lists_of what)
  pub too_many_in_list : Finds (each_name rule.too_many_in_list) s (name_lists_of what)
  pub twice_tag : Finds rule.twice_tag s (members_of what)
  pub tag_range : Finds rule.tag_range s (members_of what)
  pub bad_default : Finds rule.bad_default s (members_of what)
  pub bad_number : Finds rule.bad_number s (enumerators_of what)
  pub bad_const : Finds rule.bad_const s (consts_of what)
  pub unknown_struct : Finds rule.unknown_struct s (keys_of what)
  pub unknown_members : Finds rule.unknown_members s (keys_of what)

-- no rule finds anything in items that stand after others
abbrev pub FaultlessFrom : State → List Item → Type 0
FaultlessFrom state [] = Unit {0}
FaultlessFrom state (i ∷ items) = NoFault (scene_at state i) i.what × FaultlessFrom (state_with state i) items

-- items that may be declared over what is declared so far
pub record CanTake (d : Declared) (items : List Item) : Type 0 where
  pub state : State
  pub agrees : Agrees state d
  pub faultless : FaultlessFrom state items

abbrev pub AreBytes : List ℕ → Type 0
AreBytes text = All (λ b. b < 256) text

-- a declaration as the grammar lets it stand in a module of that name
pub record Stands (text home : List ℕ) (decl : DeclTree) : Type 0 where
  pub short : length text < 2 ^ 32
  pub inside : DeclIn text decl
  pub nests : DeclNests 16 decl
  pub home_is : IsName home

-- how many declarations an entry has, and how many entries have together
abbrev pub entry_decls : Entry → ℕ
entry_decls (Include span) = 0
entry_decls (Module m) = length m.decls

abbrev pub decl_count : List Entry → ℕ
decl_count [] = 0
decl_count (e ∷ entries) = entry_decls e + decl_count entries

-- a declaration that may be added to what is declared so far
pub record CanAdd (d : Declared) (text home : List ℕ) (decl : DeclTree) : Type 0 where
  pub file : ℕ
  pub items : List Item
  pub can : CanTake d (item file text home (declared decl) ∷ items)
  pub stands : Stands text home decl

-- declarations of a module that may be added one after the other
pub record CanAddAll (d : Declared) (text home : List ℕ) (decls : List DeclTree) : Type 0 where
  pub file : ℕ
  pub items : List Item
  pub can : CanTake d (map (λ decl. item file text home (declared decl)) decls ++ items)
  pub stand : AllByRecursion (Stands text home) decls

abbrev pub with_decls : List ℕ → List ℕ → Declared → List DeclTree → Declared
with_decls text home d decls = fold (λ d decl. with_decl (place_of d text home) decl) d decls

abbrev pub with_entry : List ℕ → Declared → Entry → Declared
with_entry text d (Include span) = d
with_entry text d (Module m) = with_decls text (word text m.name) d m.decls

abbrev pub with_entries : List ℕ → Declared → List Entry → Declared
with_entries text d entries = fold (with_entry text) d entries

-- entries of a file that may be added one after the other
pub record CanAddEntries (d : Declared) (text : List ℕ) (entries : List Entry) : Type 0 where
  pub short : length text < 2 ^ 32
  pub file : ℕ
  pub earlier : List (List ℕ)
  pub items : List Item
  pub can : CanTake d (flat_map (entry_items file text earlier) entries ++ items)
  pub inside : AllByRecursion (EntryIn text) entries
  pub nest : AllByRecursion (EntryNests 16) entries

abbrev pub with_file : Declared → File → Declared
with_file d f = with_entries f.text d f.entries

-- files that may be added one after the other
pub record CanAddFiles (d : Declared) (files : List File) : Type 0 where
  pub number : ℕ
  pub earlier : List (List ℕ)
  pub can : CanTake d (items_from number earlier files)
