-- Items that no rule refuses may be declared one after the other.
use Rattle.std.proofs.Common.{◌≡◌, ◌<◌, ◌≤◌, ◌^◌, ℕ, get_or, false, Option, None, is_some, List, [], ◌∷◌, length, refl, sym, ap, ◌∙◌, arith}
use Rattle.tars_model.specs.Declarations.{Declared}
use Rattle.tars_model.specs.Names.{IsName}
use Rattle.tars_model.specs.Schemas.{StructFits, EnumFits, ConstFits, KeyFits, InterfaceFits}
use Rattle.idl_parse.specs.TreeSpans.{NameIn}
use Rattle.idl_lex.specs.declared.span.Span.{Span}
use Rattle.idl_parse.specs.declared.tree.decl.ConstTree.{ConstTree}
use Rattle.idl_parse.specs.declared.tree.decl.DeclTree.{DeclTree}
use Rattle.idl_parse.specs.declared.tree.decl.DeclTree.TheVariants as decls
use Rattle.idl_parse.specs.declared.tree.decl.EnumTree.{EnumTree}
use Rattle.idl_parse.specs.declared.tree.decl.InterfaceTree.{InterfaceTree}
use Rattle.idl_parse.specs.declared.tree.decl.KeyTree.{KeyTree}
use Rattle.idl_parse.specs.declared.tree.decl.StructTree.{StructTree}
use Rattle.idl_scene.specs.Items.{Included, included, block, declared, Item, item, word}
use Rattle.idl_scene.specs.Known.{Meaning, Scene, each_once, find}
use Rattle.idl_scene.specs.declared.check_fault.CheckWhy.TheVariants.{TwiceName, TooMany}
use Rattle.idl_rules.specs.Conditions.{State, scene_at, state_with}
use Rattle.idl_rules.specs.Rules.{twice_declared, too_many, reserved}
use Rattle.idl_schema.specs.Agreement.{MeansIn, struct_meant, enum_meant, no_type_meant, Agrees}
use Rattle.idl_schema.specs.Faultless.{AreBytes, CanTake, Stands, CanAdd}
use Rattle.idl_schema.specs.SchemaOf.{Place, place_of, struct_of, enum_of, const_of, key_of, interface_of, with_decl, struct_number, enum_number}
use Rattle.idl_schema.proofs.Agreeing.{struct_new, enum_new}
use Rattle.idl_schema.proofs.EnumFit.{enum_fits, enum_ints, items_named}
use Rattle.idl_schema.proofs.ListFits.{free_name}
use Rattle.idl_schema.proofs.NextState.{struct_next, enum_next, const_next, interface_next, key_next}
use Rattle.idl_schema.proofs.Once.{once_each}
use Rattle.idl_schema.proofs.Nothing.{passed, alone_nothing}
use Rattle.idl_schema.proofs.OtherFits.{const_fits, key_fits, interface_fits}
use Rattle.idl_schema.proofs.SpelledBytes.{slice_of_bytes}
use Rattle.idl_schema.proofs.StructFit.{struct_fits, struct_names, depth_counted, size_counted}

-- ---- one item more

module _ (d : Declared) (file : ℕ) (text home : List ℕ) (items : List Item) where
  pub block_named : (name : Span) → NameIn text name → CanTake d (item file text home (block name) ∷ items) → IsName (word text name)
  block_named name at can =
      let s = scene_at can.state (item file text home (block name)) in
      free_name s name at (alone_nothing (reserved s) [] (name ∷ []) can.faultless.0.reserved_block).0

  pub after_block : (name : Span) → CanTake d (item file text home (block name) ∷ items) → CanTake d items
  after_block name can = record { state = can.state; agrees = can.agrees; faultless = can.faultless.1 }

  pub after_include : (i : Included) → CanTake d (item file text home (included i) ∷ items) → CanTake d items
  after_include i can = record { state = can.state; agrees = can.agrees; faultless = can.faultless.1 }

  abbrev place : Place
  place = record { so_far = d; text = text; home = home }

  abbrev scene : State → DeclTree → Scene
  scene state decl = scene_at state (item file text home (declared decl))

  abbrev Taken : DeclTree → Type 0
  Taken decl = CanTake d (item file text home (declared decl) ∷ items)

  absent : (decl : DeclTree) (can : Taken decl) (name : Span) → twice_declared (scene can.state decl) decl ≡ twice_declared (scene can.state (decls.Struct (record { name = name; members = [] }))) (decls.Struct (record { name = name; members = [] }))
      → is_some (find home (word text name) can.state.known) ≡ false
  absent decl can name same =
      passed _ file name.start TwiceName (sym same ∙ (alone_nothing (twice_declared (scene can.state decl)) [] (decl ∷ []) can.faultless.0.twice_declared).0)

  pub takes_struct : AreBytes text → (t : StructTree) → Taken (decls.Struct t) → Stands text home (decls.Struct t) → StructFits d (struct_of place t)
  takes_struct bytes t can st = struct_fits (scene can.state (decls.Struct t)) d can.agrees st.short t can.faultless.0 st.inside st.nests bytes st.home_is

  pub takes_enum : (t : EnumTree) → Taken (decls.Enum t) → Stands text home (decls.Enum t) → EnumFits d (enum_of place t)
  takes_enum t can st = enum_fits (scene can.state (decls.Enum t)) d can.agrees t can.faultless.0 st.inside st.home_is

  pub takes_const : AreBytes text → (t : ConstTree) → Taken (decls.Const t) → Stands text home (decls.Const t) → ConstFits d (const_of place t)
  takes_const bytes t can st = const_fits (scene can.state (decls.Const t)) d can.agrees t st.short can.faultless.0 st.inside st.nests bytes st.home_is

  pub takes_key : (t : KeyTree) → Taken (decls.Key t) → length d.keys < 2 ^ 32 → KeyFits d (key_of place t)
  takes_key t can few = key_fits (scene can.state (decls.Key t)) d can.agrees t can.faultless.0 few

  pub takes_interface : (t : InterfaceTree) → Taken (decls.Interface t) → Stands text home (decls.Interface t) → InterfaceFits d (interface_of place t)
  takes_interface t can st = interface_fits (scene can.state (decls.Interface t)) d can.agrees t can.faultless.0 st.inside st.nests st.home_is

  agrees_after : (decl : DeclTree) (can : Taken decl) → Stands text home decl → Agrees (state_with can.state (item file text home (declared decl))) (with_decl place decl)
  agrees_after (decls.Struct t) can st =
      let s = scene can.state (decls.Struct t) in
      let depth = depth_counted s d can.agrees st.short t can.faultless.0 st.inside st.nests in
      struct_next s d can.agrees t.name (absent (decls.Struct t) can t.name refl) (struct_of place t) refl refl _ _ _
      (struct_new d (struct_of place t) _ _ _ depth.0 depth.1 (size_counted s d can.agrees st.short t can.faultless.0 st.inside st.nests) (once_each _ _ (struct_names s d can.agrees st.short t can.faultless.0 st.inside st.nests)))
      (passed _ file t.name.start TooMany (alone_nothing (too_many s) [] (decls.Struct t ∷ []) can.faultless.0.too_many).0)
  agrees_after (decls.Enum t) can st =
      let s = scene can.state (decls.Enum t) in
      enum_next s d can.agrees t.name (absent (decls.Enum t) can t.name refl) (enum_of place t) refl refl _
      (enum_new d (enum_of place t) _ (ap each_once (items_named text [] t.items)) (enum_ints s d can.agrees t can.faultless.0 st.inside))
      (passed _ file t.name.start TooMany (alone_nothing (too_many s) [] (decls.Enum t ∷ []) can.faultless.0.too_many).0)
  agrees_after (decls.Const t) can st =
      let s = scene can.state (decls.Const t) in
      const_next s d can.agrees t.typed.name (absent (decls.Const t) can t.typed.name refl) (const_of place t) refl refl
      (passed _ file t.typed.name.start TooMany (alone_nothing (too_many s) [] (decls.Const t ∷ []) can.faultless.0.too_many).0)
  agrees_after (decls.Key t) can st = key_next (scene can.state (decls.Key t)) d can.agrees (key_of place t)
  agrees_after (decls.Interface t) can st =
      let s = scene can.state (decls.Interface t) in
      interface_next s d can.agrees t.name (absent (decls.Interface t) can t.name refl) (interface_of place t) refl refl
      (passed _ file t.name.start TooMany (alone_nothing (too_many s) [] (decls.Interface t ∷ []) can.faultless.0.too_many).0)

  -- one declaration more
  pub after_decl : (decl : DeclTree) → Taken decl → Stands text home decl → CanTake (with_decl place decl) items
  after_decl decl can st = record {
    state = state_with can.state (item file text home (declared decl));
    agrees = agrees_after decl can st;
    faultless = can.faultless.1;
  }

  -- structs and enums are few
  pub few_types : (i : Item) → CanTake d (i ∷ items) → (length d.structs ≤ 1024) × (length d.enums ≤ 1024)
  few_types i can = let structs = can.agrees.structs in let enums = can.agrees.enums in (omega arith, omega arith)

-- a name of which nothing is known is no type's
no_number : (d : Declared) (m : Option Meaning) (sn en : Option ℕ) → MeansIn d m sn en → is_some m ≡ false → (sn ≡ None) × (en ≡ None)
no_number d m sn en (struct_meant is_m is_s st) none = absurd (cc (sym (ap is_some is_m) ∙ none))
no_number d m sn en (enum_meant is_m no_struct is_e enum) none = absurd (cc (sym (ap is_some is_m) ∙ none))
no_number d m sn en (no_type_meant is a b) none = (a, b)

-- the same, as the code asks for it
module _ (d : Declared) (text home : List ℕ) where
  pub few_structs : (decl : DeclTree) → CanAdd d text home decl → length d.structs ≤ 1024
  few_structs decl add = (few_types d add.file text home add.items (item add.file text home (declared decl)) add.can).0

  pub few_enums : (decl : DeclTree) → CanAdd d text home decl → length d.enums ≤ 1024
  few_enums decl add = (few_types d add.file text home add.items (item add.file text home (declared decl)) add.can).1

  pub adds_struct : ((i : ℕ) → get_or text i 0 < 256) → (t : StructTree) → CanAdd d text home (decls.Struct t) → StructFits d (struct_of (place_of d text home) t)
  adds_struct fits t add = takes_struct d add.file text home add.items (slice_of_bytes text fits) t add.can add.stands

  pub adds_enum : (t : EnumTree) → CanAdd d text home (decls.Enum t) → EnumFits d (enum_of (place_of d text home) t)
  adds_enum t add = takes_enum d add.file text home add.items t add.can add.stands

  pub adds_const : ((i : ℕ) → get_or text i 0 < 256) → (t : ConstTree) → CanAdd d text home (decls.Const t) → ConstFits d (const_of (place_of d text home) t)
  adds_const fits t add = takes_const d add.file text home add.items (slice_of_bytes text fits) t add.can add.stands

  pub adds_key : (t : KeyTree) → CanAdd d text home (decls.Key t) → length d.keys < 2 ^ 32 → KeyFits d (key_of (place_of d text home) t)
  adds_key t add few = takes_key d add.file text home add.items t add.can few

  pub adds_interface : (t : InterfaceTree) → CanAdd d text home (decls.Interface t) → InterfaceFits d (interface_of (place_of d text home) t)
  adds_interface t add = takes_interface d add.file text home add.items t add.can add.stands

  -- the name of a struct or enum has no number yet
  pub new_struct : (t : StructTree) → CanAdd d text home (decls.Struct t) → struct_number d home (word text t.name) ≡ None
  new_struct t add =
      (no_number d _ _ _ (add.can.agrees.means home (word text t.name)) (absent d add.file text home add.items (decls.Struct t) add.can t.name refl)).0

  pub new_enum : (t : EnumTree) → CanAdd d text home (decls.Enum t) → enum_number d home (word text t.name) ≡ None
  new_enum t add =
      (no_number d _ _ _ (add.can.agrees.means home (word text t.name)) (absent d add.file text home add.items (decls.Enum t) add.can t.name refl)).1
