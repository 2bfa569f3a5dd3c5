-- The walk over files, blocks and declarations adds one item after the other.
use Rattle.std.proofs.Common.{◌≡◌, ◌<◌, ◌^◌, ◌+◌, ℕ, List, [], ◌∷◌, ◌++◌, length, map, fold, take, drop, get_or, refl, sym, ap, ◌∙◌, subst, append_assoc}
use Rattle.std.proofs.lemmas.Grind.{fold-append}
use Rattle.std.proofs.lemmas.List.{take_more, drop_more}
use Rattle.std.proofs.lemmas.List.Elements.{recursion_from_All}
use Rattle.std.specs.List.{All, AllByRecursion, flat_map}
use Rattle.tars_model.specs.Declarations.{Declared, nothing_declared}
use Rattle.tars_model.specs.Names.{IsName}
use Rattle.idl_parse.specs.Files.{File}
use Rattle.idl_parse.specs.Nesting.{DeclNests, EntryNests}
use Rattle.idl_parse.specs.TreeSpans.{DeclIn, EntryIn}
use Rattle.idl_parse.specs.declared.tree.decl.DeclTree.{DeclTree}
use Rattle.idl_parse.specs.declared.tree.module.Entry.{Entry}
use Rattle.idl_parse.specs.declared.tree.module.Entry.TheVariants.{Include, Module}
use Rattle.idl_parse.specs.declared.tree.module.ModuleTree.{ModuleTree}
use Rattle.least_fault.specs.Conditions.{found_by}
use Rattle.idl_scene.specs.Items.{declared, Item, item, entry_items, file_items, items_from, items_of, word}
use Rattle.idl_rules.specs.Conditions.{conditions, at_first, state_with, state_after, faults_of}
use Rattle.idl_schema.specs.Faultless.{FaultlessFrom, CanTake, Stands, CanAdd, CanAddAll, with_decls, with_entry, with_entries, CanAddEntries, with_file, CanAddFiles}
use Rattle.idl_schema.specs.SchemaOf.{place_of, with_decl, with_item, schema_of}
use Rattle.idl_schema.specs.Agreement.{Agrees, no_type_meant}
use Rattle.idl_schema.proofs.Unfaulted.{no_fault}
use Rattle.idl_schema.proofs.Taking.{block_named, after_block, after_include, after_decl}

-- ---- what the items declare

decls_items : (file : ℕ) (text home : List ℕ) (d : Declared) (decls : List DeclTree) → fold with_item d (map (λ decl. item file text home (declared decl)) decls) ≡ with_decls text home d decls
decls_items file text home d [] = refl
decls_items file text home d (decl ∷ decls) = decls_items file text home (with_decl (place_of d text home) decl) decls

entry_is : (file : ℕ) (text : List ℕ) (earlier : List (List ℕ)) (d : Declared) (e : Entry) → fold with_item d (entry_items file text earlier e) ≡ with_entry text d e
entry_is file text earlier d (Include span) = refl
entry_is file text earlier d (Module m) = decls_items file text (word text m.name) d m.decls

entries_are : (file : ℕ) (text : List ℕ) (earlier : List (List ℕ)) (d : Declared) (es : List Entry) → fold with_item d (flat_map (entry_items file text earlier) es) ≡ with_entries text d es
entries_are file text earlier d [] = refl
entries_are file text earlier d (e ∷ es) =
    fold-append with_item d (entry_items file text earlier e) (flat_map (entry_items file text earlier) es)
    ∙ ap (λ d. fold with_item d (flat_map (entry_items file text earlier) es)) (entry_is file text earlier d e) ∙ entries_are file text earlier (with_entry text d e) es

pub files_are : (number : ℕ) (earlier : List (List ℕ)) (d : Declared) (files : List File) → fold with_item d (items_from number earlier files) ≡ fold with_file d files
files_are number earlier d [] = refl
files_are number earlier d (f ∷ files) =
    fold-append with_item d (file_items number earlier f) (items_from (number + 1) (earlier ++ f.name ∷ []) files)
    ∙ ap (λ d. fold with_item d (items_from (number + 1) (earlier ++ f.name ∷ []) files)) (entries_are number f.text earlier d f.entries)
    ∙ files_are (number + 1) (earlier ++ f.name ∷ []) (with_file d f) files

-- ---- declarations

pub first_decl : (d : Declared) (text home : List ℕ) (decl : DeclTree) (decls : List DeclTree) → CanAddAll d text home (decl ∷ decls) → CanAdd d text home decl
first_decl d text home decl decls all = record { file = all.file; items = map (λ decl. item all.file text home (declared decl)) decls ++ all.items; can = all.can; stands = all.stand.0 }

pub rest_decls : (d : Declared) (text home : List ℕ) (decl : DeclTree) (decls : List DeclTree) → CanAddAll d text home (decl ∷ decls) → CanAddAll (with_decl (place_of d text home) decl) text home decls
rest_decls d text home decl decls all = record {
  file = all.file;
  items = all.items;
  can = after_decl d all.file text home (map (λ decl. item all.file text home (declared decl)) decls ++ all.items) decl all.can all.stand.0;
  stand = all.stand.1;
}

-- all of them
after_decls : (file : ℕ) (text home : List ℕ) (items : List Item) (d : Declared) (decls : List DeclTree) → CanTake d (map (λ decl. item file text home (declared decl)) decls ++ items) → AllByRecursion (Stands text home) decls
    → CanTake (with_decls text home d decls) items
after_decls file text home items d [] can stand = can
after_decls file text home items d (decl ∷ decls) can stand =
    after_decls file text home items (with_decl (place_of d text home) decl) decls (after_decl d file text home (map (λ decl. item file text home (declared decl)) decls ++ items) decl can stand.0) stand.1

-- ---- entries

all_stand : (text home : List ℕ) → length text < 2 ^ 32 → IsName home → (decls : List DeclTree) → AllByRecursion (DeclIn text) decls → AllByRecursion (DeclNests 16) decls → AllByRecursion (Stands text home) decls
all_stand text home short home_is [] inside nest = tt
all_stand text home short home_is (decl ∷ decls) inside nest = (record { short = short; inside = inside.0; nests = nest.0; home_is = home_is }, all_stand text home short home_is decls inside.1 nest.1)

module _ (d : Declared) (text : List ℕ) (e : Entry) (es : List Entry) (all : CanAddEntries d text (e ∷ es)) where
  abbrev later : List Item
  later = flat_map (entry_items all.file text all.earlier) es ++ all.items

  here : CanTake d (entry_items all.file text all.earlier e ++ later)
  here = subst (CanTake d) (append_assoc (entry_items all.file text all.earlier e) (flat_map (entry_items all.file text all.earlier) es) all.items) all.can

module _ (d : Declared) (text : List ℕ) (m : ModuleTree) (es : List Entry) (all : CanAddEntries d text (Module m ∷ es)) where
  module_stands : AllByRecursion (Stands text (word text m.name)) m.decls
  module_stands =
      all_stand text (word text m.name) all.short (block_named d all.file text (word text m.name) (map (λ decl. item all.file text (word text m.name) (declared decl)) m.decls ++ later d text (Module m) es all) m.name all.inside.0.0 (here d text (Module m) es all))
      m.decls (recursion_from_All (DeclIn text) m.decls all.inside.0.1) (recursion_from_All (DeclNests 16) m.decls all.nest.0)

  pub module_decls : CanAddAll d text (word text m.name) m.decls
  module_decls = record {
    file = all.file;
    items = later d text (Module m) es all;
    can = after_block d all.file text (word text m.name) (map (λ decl. item all.file text (word text m.name) (declared decl)) m.decls ++ later d text (Module m) es all) m.name (here d text (Module m) es all);
    stand = module_stands;
  }

after_entry : (d : Declared) (text : List ℕ) (e : Entry) (es : List Entry) (all : CanAddEntries d text (e ∷ es)) → CanTake (with_entry text d e) (later d text e es all)
unfolding module_decls
after_entry d text (Include span) es all = after_include d all.file text [] (later d text (Include span) es all) _ (here d text (Include span) es all)
after_entry d text (Module m) es all =
    let add = module_decls d text m es all in
    after_decls all.file text (word text m.name) (later d text (Module m) es all) d m.decls add.can add.stand

pub rest_entries : (d : Declared) (text : List ℕ) (e : Entry) (es : List Entry) → CanAddEntries d text (e ∷ es) → CanAddEntries (with_entry text d e) text es
rest_entries d text e es all = record {
  short = all.short;
  file = all.file;
  earlier = all.earlier;
  items = all.items;
  can = after_entry d text e es all;
  inside = all.inside.1;
  nest = all.nest.1;
}

-- all of them
after_entries : (file : ℕ) (text : List ℕ) (earlier : List (List ℕ)) (items : List Item) (d : Declared) (es : List Entry) → length text < 2 ^ 32 → CanTake d (flat_map (entry_items file text earlier) es ++ items)
    → AllByRecursion (EntryIn text) es → AllByRecursion (EntryNests 16) es → CanTake (with_entries text d es) items
after_entries file text earlier items d [] short can inside nest = can
after_entries file text earlier items d (e ∷ es) short can inside nest =
    after_entries file text earlier items (with_entry text d e) es short
    (after_entry d text e es (record { short = short; file = file; earlier = earlier; items = items; can = can; inside = inside; nest = nest })) inside.1 nest.1

-- ---- files

pub first_file : (d : Declared) (f : File) (files : List File) → CanAddFiles d (f ∷ files) → length f.text < 2 ^ 32 → All (EntryIn f.text) f.entries → All (EntryNests 16) f.entries → CanAddEntries d f.text f.entries
first_file d f files all short inside nest = record {
  short = short;
  file = all.number;
  earlier = all.earlier;
  items = items_from (all.number + 1) (all.earlier ++ f.name ∷ []) files;
  can = all.can;
  inside = recursion_from_All (EntryIn f.text) f.entries inside;
  nest = recursion_from_All (EntryNests 16) f.entries nest;
}

pub rest_files : (d : Declared) (f : File) (files : List File) → CanAddFiles d (f ∷ files) → length f.text < 2 ^ 32 → All (EntryIn f.text) f.entries → All (EntryNests 16) f.entries → CanAddFiles (with_file d f) files
rest_files d f files all short inside nest = record {
  number = all.number + 1;
  earlier = all.earlier ++ f.name ∷ [];
  can = after_entries all.number f.text all.earlier (items_from (all.number + 1) (all.earlier ++ f.name ∷ []) files) d f.entries short all.can (recursion_from_All (EntryIn f.text) f.entries inside) (recursion_from_All (EntryNests 16) f.entries nest);
}

-- ---- from no fault

-- the first of what is left
pub left_is : {A : Type 0} (xs : List A) (i : ℕ) (x : A) → i < length xs → x ≡ get_or xs i x → drop i xs ≡ x ∷ drop (i + 1) xs
left_is xs i x within is = drop_more xs i x within ∙ ap (λ e. e ∷ drop (i + 1) xs) (sym is)

taken_is : {A : Type 0} (xs : List A) (i : ℕ) (x : A) → i < length xs → x ≡ get_or xs i x → take (i + 1) xs ≡ take i xs ++ x ∷ []
taken_is xs i x within is = take_more xs i x within ∙ ap (λ e. take i xs ++ (e ∷ [])) (sym is)

-- a walk, one step more
pub walked_more : {A : Type 0} (step : Declared → A → Declared) (d : Declared) (xs : List A) (i : ℕ) (x : A) → i < length xs → x ≡ get_or xs i x → fold step d (take (i + 1) xs) ≡ step (fold step d (take i xs)) x
walked_more step d xs i x within is = ap (fold step d) (taken_is xs i x within is) ∙ fold-append step d (take i xs) (x ∷ [])

faultless_from : (before items : List Item) → found_by conditions (before ++ items) ≡ [] → FaultlessFrom (state_after before) items
faultless_from before [] e = tt
faultless_from before (i ∷ items) e = (
  no_fault before items i e,
  subst (λ st. FaultlessFrom st items) (fold-append state_with at_first before (i ∷ [])) (faultless_from (before ++ i ∷ []) items (ap (found_by conditions) (append_assoc before (i ∷ []) items) ∙ e)),
)

nothing_agrees : Agrees at_first nothing_declared
nothing_agrees = record {
  means = λ home name. no_type_meant refl refl refl;
  taken = tt;
  structs = refl;
  enums = refl;
  consts = refl;
  interfaces = refl;
}

pub can_add_files : (files : List File) → faults_of files ≡ [] → CanAddFiles nothing_declared files
can_add_files files none = record {
  number = 0;
  earlier = [];
  can = record { state = at_first; agrees = nothing_agrees; faultless = faultless_from [] (items_of files) none };
}

pub all_files : (files : List File) → fold with_file nothing_declared files ≡ schema_of files
all_files files = sym (files_are 0 [] nothing_declared files)
