-- A type that is written, and that no rule refuses, may be declared.
use Rattle.std.proofs.Common.{◌≡◌, ◌≢◌, ◌≤◌, ℕ, suc, Bool, true, false, cond, List, [], ◌∷◌, ◌++◌, length, refl, sym, ap, ◌∙◌, subst, arith}
use Rattle.std.proofs.lemmas.Bool.Decides.{nat_tests}
use Rattle.std.specs.List.{AllByRecursion}
use Rattle.std.specs.Prelude.{nat_lt}
use Rattle.tars_model.specs.Declarations.{Declared}
use Rattle.tars_model.specs.Schemas.{IsTypeIn}
use Rattle.tars_model.specs.Types as model
use Rattle.tars_model.specs.Types.{IsType, plain as a_plain, vector as a_vector, map as a_map, is_plain, is_key, nesting, nesting_layer, depth_layer, depths_of, greater}
use Rattle.tars_model.specs.declared.ty.Ty.{Ty, out-Ty, map-Ty}
use Rattle.tars_model.specs.declared.ty.Ty.TheOpen as ty
use Rattle.tars_model.specs.declared.ty.Ty.TheVariants as tys
use Rattle.tars_model.specs.declared.ty.Ty.TheVariants.{outs-Bool, outs-Byte, outs-Short, outs-Int, outs-Long, outs-Text, outs-UByte, outs-UShort, outs-UInt, outs-Vector as outs-Vec, outs-Map as outs-Table}
use Rattle.idl_parse.specs.Nesting.{tree_nesting, IsNested}
use Rattle.idl_parse.proofs.CallerLemmas.{nests_basic, nests_named, nests_vector, nests_map}
use Rattle.idl_parse.specs.TreeSpans as tree
use Rattle.idl_parse.specs.TreeSpans.{TypeIn}
use Rattle.idl_parse.specs.declared.tree.type_tree.BasicType.{BasicType}
use Rattle.idl_parse.specs.declared.tree.type_tree.BasicType.TheVariants as basics
use Rattle.idl_parse.specs.declared.tree.type_tree.ScopedName.{ScopedName}
use Rattle.idl_parse.specs.declared.tree.type_tree.TypeTree.{TypeTree, out-TypeTree, map-TypeTree, fold_out-TypeTree}
use Rattle.idl_parse.specs.declared.tree.type_tree.TypeTree.TheOpen as layer
use Rattle.idl_parse.specs.declared.tree.type_tree.TypeTree.TheVariants as types
use Rattle.idl_parse.specs.declared.tree.type_tree.TypeTree.TheVariants.{outs-Basic, outs-Vector, outs-Map, outs-Named}
use Rattle.idl_scene.specs.Known.{Scene, depth_of}
use Rattle.idl_scene.specs.Types as check
use Rattle.idl_scene.specs.Types.{TypeLayer, is_float, is_unsigned_byte, meaning_of, is_type, first_token, first_of_name, unknown_type, float, bad_key, deep_type, unsigned_bytes, types_in, one_deeper}
use Rattle.idl_scene.specs.declared.check_fault.CheckWhy.TheVariants.{UnknownName, BadKey, TooDeep, LeftOut}
use Rattle.idl_scene.proofs.TypeLaws.{types_basic, types_named, types_vector, types_map}
use Rattle.idl_schema.specs.Agreement.{Agrees, place_in}
use Rattle.idl_schema.specs.SchemaOf.{basic_type, named_type, resolved_layer, resolved}
use Rattle.idl_schema.proofs.Meant.{name_means, meant_is_type, meant_is_key, meant_depth, meant_nesting, meant_refers, depth_at, nesting_at}
use Rattle.idl_schema.proofs.Nothing.{passed, holds}
use Rattle.idl_schema.proofs.Parts.{each_parts}

-- no rule refuses the type itself
pub record Unfaulted (s : Scene) (t : TypeTree) : Type 0 where
  pub known : unknown_type s (out-TypeTree t) ≡ []
  pub no_float : float s (out-TypeTree t) ≡ []
  pub good_key : bad_key s (out-TypeTree t) ≡ []
  pub shallow : deep_type s t ≡ []
  pub no_bytes : unsigned_bytes s (out-TypeTree t) ≡ []

-- ---- the type that is written, at each form

module _ (s : Scene) (d : Declared) where
  abbrev pub written : TypeTree → Ty
  written t = resolved (place_in d s) t

  pub written_at : (t : TypeTree) (l : layer.TypeTree-F TypeTree) → out-TypeTree t ≡ l → written t ≡ resolved_layer (place_in d s) (map-TypeTree TypeTree Ty written l)
  written_at t l e = fold_out-TypeTree Ty (resolved_layer (place_in d s)) t ∙ ap (λ l. resolved_layer (place_in d s) (map-TypeTree TypeTree Ty written l)) e

  deep_at : (t : TypeTree) (l : layer.TypeTree-F TypeTree) → out-TypeTree t ≡ l → check.type_depth s t ≡ check.depth_layer s (map-TypeTree TypeTree ℕ (check.type_depth s) l)
  deep_at t l e = fold_out-TypeTree ℕ (check.depth_layer s) t ∙ ap (λ l. check.depth_layer s (map-TypeTree TypeTree ℕ (check.type_depth s) l)) e

pub basic_plain : (word : BasicType) → is_plain (out-Ty (basic_type word)) ≡ true
basic_plain basics.Bool = ap is_plain outs-Bool
basic_plain basics.Byte = ap is_plain outs-Byte
basic_plain basics.Short = ap is_plain outs-Short
basic_plain basics.Int = ap is_plain outs-Int
basic_plain basics.Long = ap is_plain outs-Long
basic_plain basics.Float = ap is_plain outs-Int
basic_plain basics.Double = ap is_plain outs-Int
basic_plain basics.Text = ap is_plain outs-Text
basic_plain basics.UnsignedByte = ap is_plain outs-UByte
basic_plain basics.UnsignedShort = ap is_plain outs-UShort
basic_plain basics.UnsignedInt = ap is_plain outs-UInt

plain_depth : (depths : List ℕ) (t : Ty) (l : ty.Ty-F Ty) → out-Ty t ≡ l → is_plain l ≡ true → model.type_depth depths t ≡ 0
plain_depth depths t l e is = depth_at depths t l e ∙ by_form l is
  where
    by_form : (l : ty.Ty-F Ty) → is_plain l ≡ true → depth_layer depths (map-Ty Ty ℕ (model.type_depth depths) l) ≡ 0
    by_form (ty.Enum number) is = cc
    by_form (ty.Struct number) is = cc
    by_form (ty.Vector of) is = cc
    by_form (ty.Map key value) is = cc
    by_form _ is = refl

plain_nesting : (t : Ty) (l : ty.Ty-F Ty) → out-Ty t ≡ l → is_plain l ≡ true → nesting t ≡ 1
plain_nesting t l e is = nesting_at t l e ∙ by_form l is
  where
    by_form : (l : ty.Ty-F Ty) → is_plain l ≡ true → nesting_layer (map-Ty Ty ℕ nesting l) ≡ 1
    by_form (ty.Vector of) is = cc
    by_form (ty.Map key value) is = cc
    by_form _ is = refl

basic_key : (word : BasicType) → check.is_key_word word ≡ true → is_key (out-Ty (basic_type word)) ≡ true
basic_key basics.Bool is = cc
basic_key basics.Byte is = ap is_key outs-Byte
basic_key basics.Short is = ap is_key outs-Short
basic_key basics.Int is = ap is_key outs-Int
basic_key basics.Long is = ap is_key outs-Long
basic_key basics.Float is = cc
basic_key basics.Double is = cc
basic_key basics.Text is = ap is_key outs-Text
basic_key basics.UnsignedByte is = ap is_key outs-UByte
basic_key basics.UnsignedShort is = ap is_key outs-UShort
basic_key basics.UnsignedInt is = ap is_key outs-UInt

abbrev is_ubyte : ty.Ty-F Ty → Bool
is_ubyte ty.UByte = true
is_ubyte _ = false

no_ubyte : (t : Ty) → is_ubyte (out-Ty t) ≡ false → out-Ty t ≢ ty.UByte
no_ubyte t none is = clash (sym none ∙ ap is_ubyte is)
  where
    clash : false ≡ true → ⊥
    clash e = cc

basic_no_ubyte : (word : BasicType) → is_unsigned_byte (layer.Basic 0 word) ≡ false → is_ubyte (out-Ty (basic_type word)) ≡ false
basic_no_ubyte basics.Bool is = ap is_ubyte outs-Bool
basic_no_ubyte basics.Byte is = ap is_ubyte outs-Byte
basic_no_ubyte basics.Short is = ap is_ubyte outs-Short
basic_no_ubyte basics.Int is = ap is_ubyte outs-Int
basic_no_ubyte basics.Long is = ap is_ubyte outs-Long
basic_no_ubyte basics.Float is = ap is_ubyte outs-Int
basic_no_ubyte basics.Double is = ap is_ubyte outs-Int
basic_no_ubyte basics.Text is = ap is_ubyte outs-Text
basic_no_ubyte basics.UnsignedByte is = cc
basic_no_ubyte basics.UnsignedShort is = ap is_ubyte outs-UShort
basic_no_ubyte basics.UnsignedInt is = ap is_ubyte outs-UInt

refers_no_ubyte : (l : ty.Ty-F Ty) → is_plain l ≡ false → is_ubyte l ≡ false
refers_no_ubyte (ty.Enum number) is = refl
refers_no_ubyte (ty.Struct number) is = refl
refers_no_ubyte (ty.Vector of) is = refl
refers_no_ubyte (ty.Map key value) is = refl
refers_no_ubyte _ is = cc

same_ubyte : (at : ℕ) (word : BasicType) → is_unsigned_byte (layer.Basic at word) ≡ is_unsigned_byte (layer.Basic 0 word)
same_ubyte at basics.UnsignedByte = refl
same_ubyte at _ = refl

-- ---- capped depths

abbrev pub capped : ℕ → ℕ
capped n = cond (nat_lt n 33) n 33

pub capped_one : (n : ℕ) → one_deeper (capped n) ≡ capped (suc n)
capped_one n = grind (arith, nat_tests)

pub capped_both : (a b : ℕ) → greater (capped a) (capped b) ≡ capped (greater a b)
capped_both a b = grind (arith, nat_tests)

capped_small : (n : ℕ) → n ≤ 32 → capped n ≡ n
capped_small n small = grind (arith, nat_tests)

uncapped : (n : ℕ) → nat_lt 32 (capped n) ≡ false → n ≤ 32
uncapped n small = grind (arith, nat_tests)

-- ---- types

module _ (s : Scene) (d : Declared) (agrees : Agrees (record { known = s.known; room = s.room }) d) where
  pub known_name : (t : TypeTree) (name : ScopedName) → t ≡ types.Named name → Unfaulted s t → is_type (meaning_of s name) ≡ true
  known_name t name is un = holds (is_type (meaning_of s name)) s.file (first_of_name name) UnknownName (sym (ap (unknown_type s) (ap out-TypeTree is ∙ outs-Named name)) ∙ un.known)

  pub name_at : (t : TypeTree) (name : ScopedName) → t ≡ types.Named name → written s d t ≡ named_type (place_in d s) name
  name_at t name is = written_at s d t (layer.Named name) (ap out-TypeTree is ∙ outs-Named name)

  pub basic_at : (t : TypeTree) (at : ℕ) (word : BasicType) → t ≡ types.Basic at word → written s d t ≡ basic_type word
  basic_at t at word is = written_at s d t (layer.Basic at word) (ap out-TypeTree is ∙ outs-Basic at word)

  pub vector_at : (t : TypeTree) (at : ℕ) (element : TypeTree) → t ≡ types.Vector at element → written s d t ≡ tys.Vector (written s d element)
  vector_at t at element is = written_at s d t (layer.Vector at element) (ap out-TypeTree is ∙ outs-Vector at element)

  pub map_at : (t : TypeTree) (at : ℕ) (key value : TypeTree) → t ≡ types.Map at key value → written s d t ≡ tys.Map (written s d key) (written s d value)
  map_at t at key value is = written_at s d t (layer.Map at key value) (ap out-TypeTree is ∙ outs-Map at key value)

  key_fits : {t : TypeTree} → TypeIn s.text t → Unfaulted s t → check.is_key s (out-TypeTree t) ≡ true → is_key (out-Ty (written s d t)) ≡ true
  key_fits {t} (tree.basic {at = at} {word = word} is) un key =
      ap (λ w. is_key (out-Ty w)) (basic_at t at word is) ∙ basic_key word (sym (ap (check.is_key s) (ap out-TypeTree is ∙ outs-Basic at word)) ∙ key)
  key_fits {t} (tree.named {name = name} is inside) un key =
      ap (λ w. is_key (out-Ty w)) (name_at t name is)
      ∙ meant_is_key d (meaning_of s name) _ _ (name_means s d agrees name) (sym (ap (check.is_key s) (ap out-TypeTree is ∙ outs-Named name)) ∙ key)
  key_fits {t} (tree.vector {element = element} {at = at} is inside) un key = absurd (clash (sym key ∙ ap (check.is_key s) (ap out-TypeTree is ∙ outs-Vector at element)))
    where
      clash : true ≡ false → ⊥
      clash e = cc
  key_fits {t} (tree.map {key = k} {value = v} {at = at} is a b) un key = absurd (clash (sym key ∙ ap (check.is_key s) (ap out-TypeTree is ∙ outs-Map at k v)))
    where
      clash : true ≡ false → ⊥
      clash e = cc

  element_fits : {t : TypeTree} → TypeIn s.text t → Unfaulted s t → is_unsigned_byte (out-TypeTree t) ≡ false → out-Ty (written s d t) ≢ ty.UByte
  element_fits {t} (tree.basic {at = at} {word = word} is) un none =
      no_ubyte (written s d t) (ap (λ w. is_ubyte (out-Ty w)) (basic_at t at word is)
      ∙ basic_no_ubyte word (sym (same_ubyte at word) ∙ sym (ap is_unsigned_byte (ap out-TypeTree is ∙ outs-Basic at word)) ∙ none))
  element_fits {t} (tree.named {name = name} is inside) un none =
      no_ubyte (written s d t) (ap (λ w. is_ubyte (out-Ty w)) (name_at t name is)
      ∙ refers_no_ubyte (out-Ty (named_type (place_in d s) name)) (meant_refers d (meaning_of s name) _ _ (name_means s d agrees name) (known_name t name is un)))
  element_fits {t} (tree.vector {element = element} {at = at} is inside) un none =
      no_ubyte (written s d t) (ap is_ubyte (ap out-Ty (vector_at t at element is) ∙ outs-Vec (written s d element)))
  element_fits {t} (tree.map {key = k} {value = v} {at = at} is a b) un none =
      no_ubyte (written s d t) (ap is_ubyte (ap out-Ty (map_at t at k v is) ∙ outs-Table (written s d k) (written s d v)))

  abbrev pub AllUnfaulted : TypeTree → Type 0
  AllUnfaulted t = AllByRecursion (Unfaulted s) (types_in t)

  one_of : (t : TypeTree) (ts : List TypeTree) → types_in t ≡ t ∷ ts → AllUnfaulted t → Unfaulted s t × AllByRecursion (Unfaulted s) ts
  one_of t ts is all = let both = subst (AllByRecursion (Unfaulted s)) is all in (both.0, both.1)

  vector_parts : (t : TypeTree) (at : ℕ) (element : TypeTree) → t ≡ types.Vector at element → AllUnfaulted t → Unfaulted s t × AllUnfaulted element
  vector_parts t at element is all = one_of t (types_in element) (types_vector t at element is) all

  map_parts : (t : TypeTree) (at : ℕ) (key value : TypeTree) → t ≡ types.Map at key value → AllUnfaulted t → Unfaulted s t × (AllUnfaulted key × AllUnfaulted value)
  map_parts t at key value is all =
      let one = one_of t (types_in key ++ types_in value) (types_map t at key value is) all in
      (one.0, each_parts (Unfaulted s) (types_in key) (types_in value) one.1)

  pub itself : {t : TypeTree} → TypeIn s.text t → AllUnfaulted t → Unfaulted s t
  itself {t} (tree.basic {at = at} {word = word} is) all = (one_of t [] (types_basic t at word is) all).0
  itself {t} (tree.named {name = name} is inside) all = (one_of t [] (types_named t name is) all).0
  itself {t} (tree.vector {element = element} {at = at} is inside) all = (vector_parts t at element is all).0
  itself {t} (tree.map {key = k} {value = v} {at = at} is a b) all = (map_parts t at k v is all).0

  good_element : (t : TypeTree) (at : ℕ) (element : TypeTree) → t ≡ types.Vector at element → Unfaulted s t → is_unsigned_byte (out-TypeTree element) ≡ false
  good_element t at element is un = passed _ s.file (first_token (out-TypeTree element)) LeftOut (sym (ap (unsigned_bytes s) (ap out-TypeTree is ∙ outs-Vector at element)) ∙ un.no_bytes)

  good_map_key : (t : TypeTree) (at : ℕ) (key value : TypeTree) → t ≡ types.Map at key value → Unfaulted s t → check.is_key s (out-TypeTree key) ≡ true
  good_map_key t at key value is un = holds _ s.file (first_token (out-TypeTree key)) BadKey (sym (ap (bad_key s) (ap out-TypeTree is ∙ outs-Map at key value)) ∙ un.good_key)

  type_is : {t : TypeTree} → TypeIn s.text t → AllUnfaulted t → IsType (length d.enums) (length d.structs) (written s d t)
  type_is {t} (tree.basic {at = at} {word = word} is) all = a_plain (ap (λ w. is_plain (out-Ty w)) (basic_at t at word is) ∙ basic_plain word)
  type_is {t} (tree.named {name = name} is inside) all =
      subst (IsType (length d.enums) (length d.structs)) (sym (name_at t name is))
      (meant_is_type d (meaning_of s name) _ _ (name_means s d agrees name) (known_name t name is (one_of t [] (types_named t name is) all).0))
  type_is {t} (tree.vector {element = element} {at = at} is inside) all =
      let parts = vector_parts t at element is all in
      a_vector (ap out-Ty (vector_at t at element is) ∙ outs-Vec (written s d element)) (element_fits inside (itself inside parts.1) (good_element t at element is parts.0)) (type_is inside parts.1)
  type_is {t} (tree.map {key = k} {value = v} {at = at} is a b) all =
      let parts = map_parts t at k v is all in
      a_map (ap out-Ty (map_at t at k v is) ∙ outs-Table (written s d k) (written s d v)) (key_fits a (itself a parts.1.0) (good_map_key t at k v is parts.0)) (type_is a parts.1.0) (type_is b parts.1.1)

  deep_is : {t : TypeTree} → TypeIn s.text t → AllUnfaulted t → check.type_depth s t ≡ capped (model.type_depth (depths_of d.structs) (written s d t))
  deep_is {t} (tree.basic {at = at} {word = word} is) all =
      deep_at s d t (layer.Basic at word) (ap out-TypeTree is ∙ outs-Basic at word)
      ∙ sym (ap capped (ap (model.type_depth (depths_of d.structs)) (basic_at t at word is) ∙ plain_depth (depths_of d.structs) (basic_type word) _ refl (basic_plain word)))
  deep_is {t} (tree.named {name = name} is inside) all =
      let deep = meant_depth d (meaning_of s name) _ _ (name_means s d agrees name) (known_name t name is (one_of t [] (types_named t name is) all).0) in
      deep_at s d t (layer.Named name) (ap out-TypeTree is ∙ outs-Named name) ∙ sym (capped_small (depth_of (meaning_of s name)) deep.1)
      ∙ ap capped (deep.0 ∙ sym (ap (model.type_depth (depths_of d.structs)) (name_at t name is)))
  deep_is {t} (tree.vector {element = element} {at = at} is inside) all =
      let parts = vector_parts t at element is all in
      deep_at s d t (layer.Vector at element) (ap out-TypeTree is ∙ outs-Vector at element) ∙ ap one_deeper (deep_is inside parts.1) ∙ capped_one (model.type_depth (depths_of d.structs) (written s d element))
      ∙ sym (ap capped (depth_at (depths_of d.structs) (written s d t) (ty.Vector (written s d element)) (ap out-Ty (vector_at t at element is) ∙ outs-Vec (written s d element))))
  deep_is {t} (tree.map {key = k} {value = v} {at = at} is a b) all =
      let parts = map_parts t at k v is all in
      let depth : Ty → ℕ = model.type_depth (depths_of d.structs) in
      deep_at s d t (layer.Map at k v) (ap out-TypeTree is ∙ outs-Map at k v)
      ∙ ap (λ n. one_deeper (greater n (check.type_depth s v))) (deep_is a parts.1.0) ∙ ap (λ n. one_deeper (greater (capped (depth (written s d k))) n)) (deep_is b parts.1.1)
      ∙ ap one_deeper (capped_both (depth (written s d k)) (depth (written s d v))) ∙ capped_one (greater (depth (written s d k)) (depth (written s d v)))
      ∙ sym (ap capped (depth_at (depths_of d.structs) (written s d t) (ty.Map (written s d k) (written s d v)) (ap out-Ty (map_at t at k v is) ∙ outs-Table (written s d k) (written s d v))))

  nests_is : {t : TypeTree} → TypeIn s.text t → AllUnfaulted t → nesting (written s d t) ≡ tree_nesting t
  nests_is {t} (tree.basic {at = at} {word = word} is) all =
      ap nesting (basic_at t at word is) ∙ plain_nesting (basic_type word) _ refl (basic_plain word) ∙ sym (ap tree_nesting is ∙ nests_basic at word)
  nests_is {t} (tree.named {name = name} is inside) all =
      ap nesting (name_at t name is) ∙ meant_nesting d (meaning_of s name) _ _ (name_means s d agrees name) (known_name t name is (one_of t [] (types_named t name is) all).0)
      ∙ sym (ap tree_nesting is ∙ nests_named name)
  nests_is {t} (tree.vector {element = element} {at = at} is inside) all =
      nesting_at (written s d t) (ty.Vector (written s d element)) (ap out-Ty (vector_at t at element is) ∙ outs-Vec (written s d element))
      ∙ ap (λ n. suc n) (nests_is inside (vector_parts t at element is all).1) ∙ sym (ap tree_nesting is ∙ nests_vector at element)
  nests_is {t} (tree.map {key = k} {value = v} {at = at} is a b) all =
      let parts = map_parts t at k v is all in
      nesting_at (written s d t) (ty.Map (written s d k) (written s d v)) (ap out-Ty (map_at t at k v is) ∙ outs-Table (written s d k) (written s d v))
      ∙ ap (λ n. suc (greater n (nesting (written s d v)))) (nests_is a parts.1.0) ∙ ap (λ n. suc (greater (tree_nesting k) n)) (nests_is b parts.1.1)
      ∙ sym (ap tree_nesting is ∙ nests_map at k v)

  -- a type that may be declared
  pub type_fits : {t : TypeTree} → TypeIn s.text t → IsNested 16 t → AllUnfaulted t → IsTypeIn d (written s d t)
  type_fits {t} inside nested all =
      let un = itself inside all in
      let same = nests_is inside all in
      record {
        is_type = type_is inside all;
        shallow = subst (λ (n : ℕ). n ≤ 16) (sym same) nested;
        bounded = uncapped _ (subst (λ (n : ℕ). nat_lt 32 n ≡ false) (deep_is inside all) (passed _ s.file (first_token (out-TypeTree t)) TooDeep un.shallow));
      }

  -- its depth, as the rules count it
  pub type_deep : {t : TypeTree} → TypeIn s.text t → AllUnfaulted t → check.type_depth s t ≡ capped (model.type_depth (depths_of d.structs) (written s d t))
  type_deep inside all = deep_is inside all
