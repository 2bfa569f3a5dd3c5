-- A type that says one which may be declared has no fault, and means it.
use Rattle.std.proofs.Common.{◌≡◌, ◌≢◌, ◌<◌, ◌≤◌, ℕ, suc, true, false, Some, None, List, [], length, sym, ap, ◌∙◌, subst}
use Rattle.std.specs.List.{AllByRecursion}
use Rattle.std.specs.Prelude.{nat_lt, slice_get}
use Rattle.tars_model.specs.Declarations.{Declared}
use Rattle.tars_model.specs.Types as model
use Rattle.tars_model.specs.Types.{IsType, TyLayer, plain as a_plain, enum as an_enum, struct as a_struct, vector as a_vector, map as a_map, is_plain, is_key, depth_layer, depths_of, greater}
use Rattle.tars_model.specs.declared.enum_desc.EnumDesc.{EnumDesc}
use Rattle.tars_model.specs.declared.struct_desc.StructDesc.{StructDesc}
use Rattle.tars_model.specs.declared.ty.Ty.{Ty, out-Ty}
use Rattle.tars_model.specs.declared.ty.Ty.TheOpen as ty
use Rattle.tars_model.specs.declared.ty.Ty.TheVariants as tys
use Rattle.tars_model.specs.declared.ty.Ty.TheVariants.{rolls-Bool, rolls-Byte, rolls-Short, rolls-Int, rolls-Long, rolls-Text, rolls-UByte, rolls-UShort, rolls-UInt, rolls-Enum, rolls-Struct, rolls-Vector as rolls-Vec, rolls-Map as rolls-Table}
use Rattle.idl_parse.specs.TreeSpans as tree
use Rattle.idl_parse.specs.TreeSpans.{TypeIn, ScopedIn}
use Rattle.idl_parse.specs.declared.tree.type_tree.ScopedName.{ScopedName}
use Rattle.idl_parse.specs.declared.tree.type_tree.TypeTree.{TypeTree, out-TypeTree, map-TypeTree, fold_out-TypeTree}
use Rattle.idl_parse.specs.declared.tree.type_tree.TypeTree.TheOpen as layer
use Rattle.idl_parse.specs.declared.tree.type_tree.TypeTree.TheVariants as types
use Rattle.idl_parse.specs.declared.tree.type_tree.TypeTree.TheVariants.{outs-Basic, outs-Vector, outs-Map, outs-Named}
use Rattle.canonical_tree.specs.Says.{ScopedSays, bare, after_module, TypeSays, basic, enum, struct, vector, map}
use Rattle.idl_scene.specs.Items.{word}
use Rattle.idl_scene.specs.Known.{Scene, is_enum, depth_of}
use Rattle.idl_scene.specs.Types as check
use Rattle.idl_scene.specs.Types.{is_float, is_unsigned_byte, meaning_of, is_type, first_token, first_of_name, unknown_type, float, bad_key, deep_type, unsigned_bytes, types_in, one_deeper}
use Rattle.idl_scene.specs.declared.check_fault.CheckWhy.TheVariants.{UnknownName, Float, BadKey, TooDeep, LeftOut}
use Rattle.idl_scene.proofs.TypeLaws.{types_basic, types_named, types_vector, types_map}
use Rattle.idl_schema.specs.Agreement.{Agrees, place_in}
use Rattle.idl_schema.specs.SchemaOf.{module_of, struct_number, enum_number}
use Rattle.idl_schema.proofs.Meant.{struct_type, enum_type, name_means, meant_depth, depth_at}
use Rattle.idl_schema.proofs.Parts.{each_append}
use Rattle.idl_schema.proofs.TypeFits.{Unfaulted, written, name_at, basic_at, vector_at, map_at, capped, capped_one, capped_both}
use Rattle.idl_check.proofs.Finding.{never, no_fault_if, no_fault_unless}
use Rattle.idl_check.proofs.KnownNames.{Knows, means_struct, means_enum, struct_is_type, enum_is_type}
use Rattle.idl_check.proofs.Numbered.{Numbered}
use Rattle.idl_check.proofs.TypeLayers.{type_is, layer_of, said_word, word_type, key_word, no_bytes_word, word_depth, enum_within, struct_within, element_is, entry_is, capped_small, capped_within, inner_small, both_small}

-- where a declaration stands: over the first of the declarations that are said
pub record Here (s : Scene) (e d : Declared) : Type 0 where
  pub agrees : Agrees (record { known = s.known; room = s.room }) e
  pub knows : Knows s.known e
  pub numbered : Numbered e
  pub structs : (k : ℕ) → k < length e.structs → slice_get d.structs k ≡ slice_get e.structs k
  pub enums : (k : ℕ) → k < length e.enums → slice_get d.enums k ≡ slice_get e.enums k

-- ---- names of types

module _ (s : Scene) (e d : Declared) (here : Here s e d) where
  named_as : (own nm : List ℕ) (name : ScopedName) → ScopedSays s.text s.home own nm name → (module_of (place_in e s) name.scope ≡ own) × (word s.text name.name ≡ nm)
  named_as own nm name (bare same none says) = (ap (module_of (place_in e s)) none ∙ sym same, says.is)
  named_as own nm name (after_module {scope = scope} other is says_module says) = (ap (module_of (place_in e s)) is ∙ says_module.is, says.is)

  scope_in : (own nm : List ℕ) (name : ScopedName) → ScopedSays s.text s.home own nm name → ScopedIn s.text name
  scope_in own nm name (bare same none says) = (subst (λ o. tree.IfThere (tree.NameIn s.text) o) (sym none) tt, says.stands)
  scope_in own nm name (after_module {scope = scope} other is says_module says) = (subst (λ o. tree.IfThere (tree.NameIn s.text) o) (sym is) says_module.stands, says.stands)

  struct_named : (k : ℕ) (x : StructDesc) (name : ScopedName) → slice_get d.structs k ≡ Some x → k < length e.structs → ScopedSays s.text s.home x.«module» x.name name
      → struct_number e (module_of (place_in e s) name.scope) (word s.text name.name) ≡ Some k
  struct_named k x name get less says =
      let as_said = named_as x.«module» x.name name says in
      ap (λ h. struct_number e h (word s.text name.name)) as_said.0 ∙ ap (struct_number e x.«module») as_said.1 ∙ here.numbered.structs k x (sym (here.structs k less) ∙ get)

  enum_named : (k : ℕ) (x : EnumDesc) (name : ScopedName) → slice_get d.enums k ≡ Some x → k < length e.enums → ScopedSays s.text s.home x.«module» x.name name
      → (struct_number e (module_of (place_in e s) name.scope) (word s.text name.name) ≡ None) × (enum_number e (module_of (place_in e s) name.scope) (word s.text name.name) ≡ Some k)
  enum_named k x name get less says =
      let as_said = named_as x.«module» x.name name says in
      let found = here.numbered.enums k x (sym (here.enums k less) ∙ get) in (
        ap (λ h. struct_number e h (word s.text name.name)) as_said.0 ∙ ap (struct_number e x.«module») as_said.1 ∙ found.0,
        ap (λ h. enum_number e h (word s.text name.name)) as_said.0 ∙ ap (enum_number e x.«module») as_said.1 ∙ found.1,
      )

  struct_meant_by : (k : ℕ) (name : ScopedName) → struct_number e (module_of (place_in e s) name.scope) (word s.text name.name) ≡ Some k → is_type (meaning_of s name) ≡ true
  struct_meant_by k name is = struct_is_type (meaning_of s name) (means_struct e (meaning_of s name) _ _ k (name_means s e here.agrees name) is)

  enum_meant_by : (k : ℕ) (name : ScopedName) → struct_number e (module_of (place_in e s) name.scope) (word s.text name.name) ≡ None
      → enum_number e (module_of (place_in e s) name.scope) (word s.text name.name) ≡ Some k → is_enum (meaning_of s name) ≡ true
  enum_meant_by k name none is = means_enum e (meaning_of s name) _ _ k (name_means s e here.agrees name) none is

  -- a type over what is declared so far
  abbrev pub Declarable : Ty → Type 0
  Declarable t = IsType (length e.enums) (length e.structs) t

  -- ---- the type that is meant

  pub written_is : {t : Ty} {said : TypeTree} → TypeSays s.text d s.home t said → Declarable t → written s e said ≡ t
  written_is {t} {said} (basic {at = at} {word = w} is says) may = basic_at s e here.agrees said at w is ∙ word_type t w says
  written_is {t} {said} (enum {k = k} {e = x} {name = name} is out get says) may =
      let named = enum_named k x name get (enum_within (length e.enums) (length e.structs) may k out) says in
      name_at s e here.agrees said name is ∙ enum_type _ _ k named.0 named.1 ∙ sym (type_is t (ty.Enum k) out ∙ rolls-Enum k)
  written_is {t} {said} (struct {k = k} {s = x} {name = name} is out get says) may =
      name_at s e here.agrees said name is ∙ struct_type _ _ k (struct_named k x name get (struct_within (length e.enums) (length e.structs) may k out) says) ∙ sym (type_is t (ty.Struct k) out ∙ rolls-Struct k)
  written_is {t} {said} (vector {of = of} {element = element} {at = at} is out says) may =
      vector_at s e here.agrees said at element is ∙ ap (λ (t : Ty). tys.Vector t) (written_is says (element_is (length e.enums) (length e.structs) may of out).1) ∙ sym (type_is t (ty.Vector of) out ∙ rolls-Vec of)
  written_is {t} {said} (map {key = key} {to = to} {key_tree = k} {value_tree = v} {at = at} is out a b) may =
      let parts = entry_is (length e.enums) (length e.structs) may key to out in
      map_at s e here.agrees said at k v is ∙ ap (λ (t : Ty). tys.Map t (written s e v)) (written_is a parts.1) ∙ ap (λ (t : Ty). tys.Map key t) (written_is b parts.2) ∙ sym (type_is t (ty.Map key to) out ∙ rolls-Table key to)

  -- ---- depth

  deep_at : (t : TypeTree) (l : layer.TypeTree-F TypeTree) → out-TypeTree t ≡ l → check.type_depth s t ≡ check.depth_layer s (map-TypeTree TypeTree ℕ (check.type_depth s) l)
  deep_at t l is = fold_out-TypeTree ℕ (check.depth_layer s) t ∙ ap (λ l. check.depth_layer s (map-TypeTree TypeTree ℕ (check.type_depth s) l)) is

  abbrev pub depth : Ty → ℕ
  depth t = model.type_depth (depths_of e.structs) t

  named_deep : (t : Ty) (said : TypeTree) (name : ScopedName) → said ≡ types.Named name → is_type (meaning_of s name) ≡ true → written s e said ≡ t → check.type_depth s said ≡ capped (depth t)
  named_deep t said name is meant same =
      let deep = meant_depth e (meaning_of s name) _ _ (name_means s e here.agrees name) meant in
      deep_at said (layer.Named name) (ap out-TypeTree is ∙ outs-Named name) ∙ sym (capped_small (depth_of (meaning_of s name)) deep.1)
      ∙ ap capped (deep.0 ∙ ap depth (sym (name_at s e here.agrees said name is) ∙ same))

  pub enum_is_meant : (t : Ty) (k : ℕ) (x : EnumDesc) (name : ScopedName) → out-Ty t ≡ ty.Enum k → slice_get d.enums k ≡ Some x → Declarable t → ScopedSays s.text s.home x.«module» x.name name → is_enum (meaning_of s name) ≡ true
  enum_is_meant t k x name out get may says =
      let named = enum_named k x name get (enum_within (length e.enums) (length e.structs) may k out) says in
      enum_meant_by k name named.0 named.1

  struct_is_meant : (t : Ty) (k : ℕ) (x : StructDesc) (name : ScopedName) → out-Ty t ≡ ty.Struct k → slice_get d.structs k ≡ Some x → Declarable t → ScopedSays s.text s.home x.«module» x.name name → is_type (meaning_of s name) ≡ true
  struct_is_meant t k x name out get may says = struct_meant_by k name (struct_named k x name get (struct_within (length e.enums) (length e.structs) may k out) says)

  pub deep_said : {t : Ty} {said : TypeTree} → TypeSays s.text d s.home t said → Declarable t → check.type_depth s said ≡ capped (depth t)
  deep_said {t} {said} (basic {at = at} {word = w} is says) may =
      deep_at said (layer.Basic at w) (ap out-TypeTree is ∙ outs-Basic at w)
      ∙ sym (ap capped (depth_at (depths_of e.structs) t (layer_of w) (said_word (out-Ty t) w says).layer ∙ word_depth (depths_of e.structs) w))
  deep_said {t} {said} (enum {k = k} {e = x} {name = name} is out get says) may =
      named_deep t said name is (enum_is_type (meaning_of s name) (enum_is_meant t k x name out get may says)) (written_is (enum is out get says) may)
  deep_said {t} {said} (struct {k = k} {s = x} {name = name} is out get says) may =
      named_deep t said name is (struct_is_meant t k x name out get may says) (written_is (struct is out get says) may)
  deep_said {t} {said} (vector {of = of} {element = element} {at = at} is out says) may =
      deep_at said (layer.Vector at element) (ap out-TypeTree is ∙ outs-Vector at element) ∙ ap one_deeper (deep_said says (element_is (length e.enums) (length e.structs) may of out).1)
      ∙ capped_one (depth of) ∙ sym (ap capped (depth_at (depths_of e.structs) t (ty.Vector of) out))
  deep_said {t} {said} (map {key = key} {to = to} {key_tree = k} {value_tree = v} {at = at} is out a b) may =
      let parts = entry_is (length e.enums) (length e.structs) may key to out in
      deep_at said (layer.Map at k v) (ap out-TypeTree is ∙ outs-Map at k v)
      ∙ ap (λ n. one_deeper (greater n (check.type_depth s v))) (deep_said a parts.1) ∙ ap (λ n. one_deeper (greater (capped (depth key)) n)) (deep_said b parts.2)
      ∙ ap one_deeper (capped_both (depth key) (depth to)) ∙ capped_one (greater (depth key) (depth to)) ∙ sym (ap capped (depth_at (depths_of e.structs) t (ty.Map key to) out))

  -- ---- no rule finds anything

  key_said : {t : Ty} {said : TypeTree} → TypeSays s.text d s.home t said → Declarable t → is_key (out-Ty t) ≡ true → check.is_key s (out-TypeTree said) ≡ true
  key_said {t} {said} (basic {at = at} {word = w} is says) may key =
      let one = said_word (out-Ty t) w says in
      ap (check.is_key s) (ap out-TypeTree is ∙ outs-Basic at w) ∙ key_word w (sym (ap is_key one.layer) ∙ key) one.no_float
  key_said {t} {said} (enum {k = k} {e = x} {name = name} is out get says) may key = ap (check.is_key s) (ap out-TypeTree is ∙ outs-Named name) ∙ enum_is_meant t k x name out get may says
  key_said {t} {said} (struct is out get says) may key = never (sym (ap is_key out) ∙ key)
  key_said {t} {said} (vector is out says) may key = never (sym (ap is_key out) ∙ key)
  key_said {t} {said} (map is out a b) may key = never (sym (ap is_key out) ∙ key)

  no_bytes_said : {t : Ty} {said : TypeTree} → TypeSays s.text d s.home t said → out-Ty t ≢ ty.UByte → is_unsigned_byte (out-TypeTree said) ≡ false
  no_bytes_said {t} {said} (basic {at = at} {word = w} is says) other =
      ap is_unsigned_byte (ap out-TypeTree is ∙ outs-Basic at w) ∙ no_bytes_word at w (λ same. other ((said_word (out-Ty t) w says).layer ∙ same))
  no_bytes_said {t} {said} (enum {name = name} is out get says) other = ap is_unsigned_byte (ap out-TypeTree is ∙ outs-Named name)
  no_bytes_said {t} {said} (struct {name = name} is out get says) other = ap is_unsigned_byte (ap out-TypeTree is ∙ outs-Named name)
  no_bytes_said {t} {said} (vector {element = element} {at = at} is out says) other = ap is_unsigned_byte (ap out-TypeTree is ∙ outs-Vector at element)
  no_bytes_said {t} {said} (map {key_tree = k} {value_tree = v} {at = at} is out a b) other = ap is_unsigned_byte (ap out-TypeTree is ∙ outs-Map at k v)

  shallow_said : {t : Ty} {said : TypeTree} → TypeSays s.text d s.home t said → Declarable t → depth t ≤ 32 → deep_type s said ≡ []
  shallow_said {t} {said} says may small =
      no_fault_if (nat_lt 32 (check.type_depth s said)) s.file (first_token (out-TypeTree said)) TooDeep (ap (nat_lt 32) (deep_said says may) ∙ capped_within (depth t) small)

  named_unfaulted : (said : TypeTree) (name : ScopedName) → said ≡ types.Named name → is_type (meaning_of s name) ≡ true → deep_type s said ≡ [] → AllByRecursion (Unfaulted s) (types_in said)
  named_unfaulted said name is meant shallow =
      let out_is : out-TypeTree said ≡ layer.Named name = ap out-TypeTree is ∙ outs-Named name in
      let one : Unfaulted s said = record {
        known = ap (unknown_type s) out_is ∙ no_fault_unless (is_type (meaning_of s name)) s.file (first_of_name name) UnknownName meant;
        no_float = ap (float s) out_is;
        good_key = ap (bad_key s) out_is;
        shallow = shallow;
        no_bytes = ap (unsigned_bytes s) out_is;
      } in
      subst (AllByRecursion (Unfaulted s)) (sym (types_named said name is)) (one, tt)

  pub unfaulted_said : {t : Ty} {said : TypeTree} → TypeSays s.text d s.home t said → Declarable t → depth t ≤ 32 → AllByRecursion (Unfaulted s) (types_in said)
  unfaulted_said {t} {said} (basic {at = at} {word = w} is says) may small =
      let out_is : out-TypeTree said ≡ layer.Basic at w = ap out-TypeTree is ∙ outs-Basic at w in
      let one : Unfaulted s said = record {
        known = ap (unknown_type s) out_is;
        no_float = ap (float s) out_is ∙ no_fault_if (is_float w) s.file at Float (said_word (out-Ty t) w says).no_float;
        good_key = ap (bad_key s) out_is;
        shallow = shallow_said (basic is says) may small;
        no_bytes = ap (unsigned_bytes s) out_is;
      } in
      subst (AllByRecursion (Unfaulted s)) (sym (types_basic said at w is)) (one, tt)
  unfaulted_said {t} {said} (enum {k = k} {e = x} {name = name} is out get says) may small =
      named_unfaulted said name is (enum_is_type (meaning_of s name) (enum_is_meant t k x name out get may says)) (shallow_said (enum is out get says) may small)
  unfaulted_said {t} {said} (struct {k = k} {s = x} {name = name} is out get says) may small =
      named_unfaulted said name is (struct_is_meant t k x name out get may says) (shallow_said (struct is out get says) may small)
  unfaulted_said {t} {said} (vector {of = of} {element = element} {at = at} is out says) may small =
      let out_is : out-TypeTree said ≡ layer.Vector at element = ap out-TypeTree is ∙ outs-Vector at element in
      let part = element_is (length e.enums) (length e.structs) may of out in
      let deeper : depth t ≡ suc (depth of) = depth_at (depths_of e.structs) t (ty.Vector of) out in
      let one : Unfaulted s said = record {
        known = ap (unknown_type s) out_is;
        no_float = ap (float s) out_is;
        good_key = ap (bad_key s) out_is;
        shallow = shallow_said (vector is out says) may small;
        no_bytes = ap (unsigned_bytes s) out_is ∙ no_fault_if (is_unsigned_byte (out-TypeTree element)) s.file (first_token (out-TypeTree element)) LeftOut (no_bytes_said says part.0);
      } in
      subst (AllByRecursion (Unfaulted s)) (sym (types_vector said at element is)) (one, unfaulted_said says part.1 (inner_small (depth t) (depth of) deeper small))
  unfaulted_said {t} {said} (map {key = key} {to = to} {key_tree = k} {value_tree = v} {at = at} is out a b) may small =
      let out_is : out-TypeTree said ≡ layer.Map at k v = ap out-TypeTree is ∙ outs-Map at k v in
      let parts = entry_is (length e.enums) (length e.structs) may key to out in
      let deeper : depth t ≡ suc (greater (depth key) (depth to)) = depth_at (depths_of e.structs) t (ty.Map key to) out in
      let both = both_small (depth t) (depth key) (depth to) deeper small in
      let one : Unfaulted s said = record {
        known = ap (unknown_type s) out_is;
        no_float = ap (float s) out_is;
        good_key = ap (bad_key s) out_is ∙ no_fault_unless (check.is_key s (out-TypeTree k)) s.file (first_token (out-TypeTree k)) BadKey (key_said a parts.1 parts.0);
        shallow = shallow_said (map is out a b) may small;
        no_bytes = ap (unsigned_bytes s) out_is;
      } in
      subst (AllByRecursion (Unfaulted s)) (sym (types_map said at k v is))
      (one, each_append (Unfaulted s) (types_in k) (types_in v) (unfaulted_said a parts.1 both.0) (unfaulted_said b parts.2 both.1))

  -- where its names stand
  pub type_in : {t : Ty} {said : TypeTree} → TypeSays s.text d s.home t said → TypeIn s.text said
  type_in (basic is says) = tree.basic is
  type_in (enum {e = x} {name = name} is out get says) = tree.named is (scope_in x.«module» x.name name says)
  type_in (struct {s = x} {name = name} is out get says) = tree.named is (scope_in x.«module» x.name name says)
  type_in (vector is out says) = tree.vector is (type_in says)
  type_in (map is out a b) = tree.map is (type_in a) (type_in b)
