-- Declarations that are said one after the other pass all rules, and are those of the schema.
use Rattle.std.proofs.Common.{◌≡◌, ℕ, Some, List, [], ◌∷◌, ◌++◌, length, map, fold, refl, sym, ap, ◌∙◌, subst}
use Rattle.std.proofs.lemmas.Grind.{fold-append}
use Rattle.std.specs.Prelude.{slice_get}
use Rattle.tars_model.specs.Declarations.{Declared, with_struct, with_enum, with_const, with_key, with_interface}
use Rattle.tars_model.specs.Schemas as made
use Rattle.tars_model.specs.Schemas.{StructFits, EnumFits, ConstFits, KeyFits, InterfaceFits, IsSchema}
use Rattle.tars_model.specs.declared.const_desc.ConstDesc.{ConstDesc}
use Rattle.tars_model.specs.declared.decl.Decl.{Decl}
use Rattle.tars_model.specs.declared.decl.Decl.TheVariants as decl
use Rattle.tars_model.specs.declared.enum_desc.EnumDesc.{EnumDesc}
use Rattle.tars_model.specs.declared.interface_desc.InterfaceDesc.{InterfaceDesc}
use Rattle.tars_model.specs.declared.key_desc.KeyDesc.{KeyDesc}
use Rattle.tars_model.specs.declared.struct_desc.StructDesc.{StructDesc}
use Rattle.canonical_text.specs.Canonical.{struct_home, key_home, text_of}
use Rattle.canonical_tree.specs.Says.{Pairwise, Said, StructSays, EnumSays, ConstSays, KeySays, InterfaceSays, HomeSays}
use Rattle.idl_parse.specs.declared.tree.decl.DeclTree.{DeclTree}
use Rattle.idl_parse.specs.declared.tree.decl.DeclTree.TheVariants as decls
use Rattle.idl_scene.specs.Items.{Item, declared_item}
use Rattle.idl_scene.specs.Known.{Scene}
use Rattle.idl_rules.specs.Conditions.{State, scene_at, state_with}
use Rattle.idl_schema.specs.Agreement.{Agrees}
use Rattle.idl_schema.specs.SchemaOf.{with_item}
use Rattle.idl_check.proofs.ConstSaid.{const_said}
use Rattle.idl_check.proofs.EnumSaid.{enum_said}
use Rattle.idl_check.proofs.Grown.{Grows, done, struct, enum, const, key, interface, what_is_kept, newest, next_is, none_left}
use Rattle.idl_check.proofs.InterfaceSaid.{interface_said}
use Rattle.idl_check.proofs.KeySaid.{key_said}
use Rattle.idl_check.proofs.KnownNames.{Knows}
use Rattle.idl_check.proofs.Numbered.{schema_numbered}
use Rattle.idl_check.proofs.Passing.{Step}
use Rattle.idl_check.proofs.Quiet.{AllPass, all_pass}
use Rattle.idl_check.proofs.StructSaid.{struct_said}
use Rattle.idl_check.proofs.TypesSaid.{Here}

-- what is declared so far, on the way to all, and the declarations that are left
pub record Reached (d : Declared) (state : State) (e : Declared) (left : List Decl) : Type 0 where
  pub schema : IsSchema e
  pub grows : Grows d e
  pub agrees : Agrees state e
  pub knows : Knows state.known e
  pub order : d.order ≡ e.order ++ left

-- items that pass, and what is reached after them
pub record Walked (d : Declared) (state : State) (e : Declared) (items : List Item) (left : List Decl) : Type 0 where
  pub pass : AllPass state items
  pub reached : Reached d (fold state_with state items) (fold with_item e items) left

pub walked_on : (d : Declared) (state : State) (e : Declared) (xs ys : List Item) (between left : List Decl) → Walked d state e xs between
    → (Reached d (fold state_with state xs) (fold with_item e xs) between → Walked d (fold state_with state xs) (fold with_item e xs) ys left) → Walked d state e (xs ++ ys) left
walked_on d state e xs ys between left first go =
    let then = go first.reached in
    record {
      pass = all_pass state xs ys first.pass then.pass;
      reached = subst (λ state. Reached d state (fold with_item e (xs ++ ys)) left) (sym (fold-append state_with state xs ys))
          (subst (λ e. Reached d (fold state_with (fold state_with state xs) ys) e left) (sym (fold-append with_item e xs ys)) then.reached);
    }

module _ (d : Declared) (file : ℕ) (text home : List ℕ) where
  abbrev at : State → DeclTree → Scene
  at state tree = scene_at state (declared_item file text home tree)

  abbrev After : State → Declared → DeclTree → List Decl → Type 0
  After state e tree left = Walked d state e (declared_item file text home tree ∷ []) left

  -- where the declaration stands
  stands : (state : State) (e : Declared) (left : List Decl) (tree : DeclTree) → Reached d state e left → Here (at state tree) e d
  stands state e left tree r =
      let kept = what_is_kept d r.grows in
      record { agrees = r.agrees; knows = r.knows; numbered = schema_numbered r.schema; structs = kept.structs; enums = kept.enums }

  -- a declaration that is said, and made
  stepped : (state : State) (e after : Declared) (tree : DeclTree) (left : List Decl) → Step (at state tree) e tree after → IsSchema after → Grows d after → d.order ≡ after.order ++ left → After state e tree left
  stepped state e after tree left step schema grows order = record {
    pass = (step.passes, tt);
    reached = subst (λ e. Reached d (state_with state (declared_item file text home tree)) e left) (sym step.means)
        (record { schema = schema; grows = grows; agrees = step.agrees; knows = step.knows; order = order });
  }

  -- what is said of a declaration whose number is known
  struct_tells : (k : ℕ) (x : StructDesc) (tree : DeclTree) → slice_get d.structs k ≡ Some x → HomeSays text d home (decl.Struct k) tree → (P : DeclTree → Type 0) → ((t : _) → x.«module» ≡ home → StructSays text d x t → P (decls.Struct t)) → P tree
  struct_tells k x (decls.Struct t) get says P then = then t (sym (ap struct_home get) ∙ says.0) (subst (Said (λ s. StructSays text d s t)) get says.1)
  struct_tells k x (decls.Enum t) get says P then = absurd says.1
  struct_tells k x (decls.Const t) get says P then = absurd says.1
  struct_tells k x (decls.Key t) get says P then = absurd says.1
  struct_tells k x (decls.Interface t) get says P then = absurd says.1

  enum_tells : (k : ℕ) (x : EnumDesc) (tree : DeclTree) → slice_get d.enums k ≡ Some x → HomeSays text d home (decl.Enum k) tree → (P : DeclTree → Type 0) → ((t : _) → x.«module» ≡ home → EnumSays text x t → P (decls.Enum t)) → P tree
  enum_tells k x (decls.Enum t) get says P then = then t (sym (ap (text_of (λ (e : EnumDesc). e.«module»)) get) ∙ says.0) (subst (Said (λ e. EnumSays text e t)) get says.1)
  enum_tells k x (decls.Struct t) get says P then = absurd says.1
  enum_tells k x (decls.Const t) get says P then = absurd says.1
  enum_tells k x (decls.Key t) get says P then = absurd says.1
  enum_tells k x (decls.Interface t) get says P then = absurd says.1

  const_tells : (k : ℕ) (x : ConstDesc) (tree : DeclTree) → slice_get d.consts k ≡ Some x → HomeSays text d home (decl.Const k) tree → (P : DeclTree → Type 0) → ((t : _) → x.«module» ≡ home → ConstSays text d x t → P (decls.Const t)) → P tree
  const_tells k x (decls.Const t) get says P then = then t (sym (ap (text_of (λ (c : ConstDesc). c.«module»)) get) ∙ says.0) (subst (Said (λ c. ConstSays text d c t)) get says.1)
  const_tells k x (decls.Struct t) get says P then = absurd says.1
  const_tells k x (decls.Enum t) get says P then = absurd says.1
  const_tells k x (decls.Key t) get says P then = absurd says.1
  const_tells k x (decls.Interface t) get says P then = absurd says.1

  key_tells : (k : ℕ) (x : KeyDesc) (tree : DeclTree) → slice_get d.keys k ≡ Some x → HomeSays text d home (decl.Key k) tree → (P : DeclTree → Type 0)
      → ((t : _) → struct_home (slice_get d.structs x.of) ≡ home → KeySays text d x t → P (decls.Key t)) → P tree
  key_tells k x (decls.Key t) get says P then = then t (sym (ap (key_home d) get) ∙ says.0) (subst (Said (λ k. KeySays text d k t)) get says.1)
  key_tells k x (decls.Struct t) get says P then = absurd says.1
  key_tells k x (decls.Enum t) get says P then = absurd says.1
  key_tells k x (decls.Const t) get says P then = absurd says.1
  key_tells k x (decls.Interface t) get says P then = absurd says.1

  interface_tells : (k : ℕ) (x : InterfaceDesc) (tree : DeclTree) → slice_get d.interfaces k ≡ Some x → HomeSays text d home (decl.Interface k) tree → (P : DeclTree → Type 0)
      → ((t : _) → x.«module» ≡ home → InterfaceSays text d x t → P (decls.Interface t)) → P tree
  interface_tells k x (decls.Interface t) get says P then = then t (sym (ap (text_of (λ (i : InterfaceDesc). i.«module»)) get) ∙ says.0) (subst (Said (λ i. InterfaceSays text d i t)) get says.1)
  interface_tells k x (decls.Struct t) get says P then = absurd says.1
  interface_tells k x (decls.Enum t) get says P then = absurd says.1
  interface_tells k x (decls.Const t) get says P then = absurd says.1
  interface_tells k x (decls.Key t) get says P then = absurd says.1

  -- one declaration more
  by_next : (state : State) (e : Declared) (next : Decl) (left : List Decl) (tree : DeclTree) → Reached d state e (next ∷ left) → Grows d e → HomeSays text d home next tree → After state e tree left
  by_next state e next left tree r (done is) says = none_left e d next left is r.order
  by_next state e next left tree r (struct {x = x} fits more) says =
      let kept = what_is_kept d more in
      let same = next_is d.order e.order (decl.Struct (length e.structs)) next kept.rest left kept.order r.order in
      struct_tells (length e.structs) x tree (newest d.structs e.structs x kept.structs) (subst (λ next. HomeSays text d home next tree) same.0 says) (λ tree. After state e tree left) (λ t home_is said.
      stepped state e (with_struct e x) (decls.Struct t) left (struct_said (at state (decls.Struct t)) e d (stands state e (next ∷ left) (decls.Struct t) r) x fits home_is t said) (made.struct r.schema fits refl) more same.1)
  by_next state e next left tree r (enum {x = x} fits more) says =
      let kept = what_is_kept d more in
      let same = next_is d.order e.order (decl.Enum (length e.enums)) next kept.rest left kept.order r.order in
      enum_tells (length e.enums) x tree (newest d.enums e.enums x kept.enums) (subst (λ next. HomeSays text d home next tree) same.0 says) (λ tree. After state e tree left) (λ t home_is said.
      stepped state e (with_enum e x) (decls.Enum t) left (enum_said (at state (decls.Enum t)) e d (stands state e (next ∷ left) (decls.Enum t) r) x fits home_is t said) (made.enum r.schema fits refl) more same.1)
  by_next state e next left tree r (const {x = x} fits more) says =
      let kept = what_is_kept d more in
      let same = next_is d.order e.order (decl.Const (length e.consts)) next kept.rest left kept.order r.order in
      const_tells (length e.consts) x tree (newest d.consts e.consts x kept.consts) (subst (λ next. HomeSays text d home next tree) same.0 says) (λ tree. After state e tree left) (λ t home_is said.
      stepped state e (with_const e x) (decls.Const t) left (const_said (at state (decls.Const t)) e d (stands state e (next ∷ left) (decls.Const t) r) x fits home_is t said) (made.const r.schema fits refl) more same.1)
  by_next state e next left tree r (key {x = x} fits more) says =
      let kept = what_is_kept d more in
      let same = next_is d.order e.order (decl.Key (length e.keys)) next kept.rest left kept.order r.order in
      key_tells (length e.keys) x tree (newest d.keys e.keys x kept.keys) (subst (λ next. HomeSays text d home next tree) same.0 says) (λ tree. After state e tree left) (λ t home_is said.
      stepped state e (with_key e x) (decls.Key t) left (key_said (at state (decls.Key t)) e d (stands state e (next ∷ left) (decls.Key t) r) x fits home_is t said) (made.key r.schema fits refl) more same.1)
  by_next state e next left tree r (interface {x = x} fits more) says =
      let kept = what_is_kept d more in
      let same = next_is d.order e.order (decl.Interface (length e.interfaces)) next kept.rest left kept.order r.order in
      interface_tells (length e.interfaces) x tree (newest d.interfaces e.interfaces x kept.interfaces) (subst (λ next. HomeSays text d home next tree) same.0 says) (λ tree. After state e tree left) (λ t home_is said.
      stepped state e (with_interface e x) (decls.Interface t) left (interface_said (at state (decls.Interface t)) e d (stands state e (next ∷ left) (decls.Interface t) r) x fits home_is t said) (made.interface r.schema fits refl) more same.1)

  -- the declarations of a block
  pub walked : (state : State) (e : Declared) (these left : List Decl) (trees : List DeclTree) → Pairwise (HomeSays text d home) these trees → Reached d state e (these ++ left)
      → Walked d state e (map (declared_item file text home) trees) left
  walked state e [] left [] says r = record { pass = tt; reached = r }
  walked state e (next ∷ these) left (tree ∷ trees) says r =
      walked_on d state e (declared_item file text home tree ∷ []) (map (declared_item file text home) trees) (these ++ left) left (by_next state e next (these ++ left) tree r r.grows says.0)
      (λ r. walked (state_with state (declared_item file text home tree)) (with_item e (declared_item file text home tree)) these left trees says.1 r)
  walked state e [] left (tree ∷ trees) says r = absurd says
  walked state e (next ∷ these) left [] says r = absurd says
