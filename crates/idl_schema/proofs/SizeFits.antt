-- How many values a default has, and how deep a struct is, as the rules count them.
use Rattle.std.proofs.Common.{◌≡◌, ◌≤◌, ◌+◌, ℕ, suc, Bool, true, false, cond, Option, Some, None, List, [], ◌∷◌, map, fold, sym, ap, ◌∙◌, arith}
use Rattle.std.proofs.lemmas.Bool.Decides.{nat_tests}
use Rattle.std.specs.List.{AllByRecursion}
use Rattle.std.specs.Prelude.{nat_lt}
use Rattle.tars_model.specs.Declarations.{Declared}
use Rattle.tars_model.specs.Schemas.{add_up, value_size}
use Rattle.tars_model.specs.Types as model
use Rattle.tars_model.specs.Types.{depths_of, greater, is_plain}
use Rattle.tars_model.specs.Values.{default_of, default_layer, is_byte}
use Rattle.tars_model.specs.declared.member.Member.{Member}
use Rattle.tars_model.specs.declared.ty.Ty.{Ty, out-Ty}
use Rattle.tars_model.specs.declared.ty.Ty.TheOpen as ty
use Rattle.tars_model.specs.declared.ty.Ty.TheVariants.{outs-Vector as outs-Vec, outs-Map as outs-Table}
use Rattle.tars_model.specs.declared.value.Value.TheOpen as value
use Rattle.tars_model.specs.declared.value.Value.TheVariants as values
use Rattle.tars_model.specs.declared.value.Value.TheVariants.{outs-Bool as outs-Truth, outs-Num, outs-Text as outs-Words, outs-Blob, outs-List, outs-Map as outs-Pairs}
use Rattle.idl_parse.specs.TreeSpans as tree
use Rattle.idl_parse.specs.TreeSpans.{TypeIn}
use Rattle.idl_parse.specs.declared.tree.literal.Literal.{Literal}
use Rattle.idl_parse.specs.declared.tree.literal.Literal.TheVariants as literals
use Rattle.idl_parse.specs.declared.tree.literal.LiteralWord.{LiteralWord}
use Rattle.idl_parse.specs.declared.tree.literal.LiteralWord.TheVariants as words
use Rattle.idl_parse.specs.declared.tree.member.MemberTree.{MemberTree}
use Rattle.idl_parse.specs.declared.tree.type_tree.TypeTree.{TypeTree, out-TypeTree}
use Rattle.idl_parse.specs.declared.tree.type_tree.TypeTree.TheVariants.{outs-Basic, outs-Vector, outs-Map, outs-Named}
use Rattle.idl_scene.specs.Known.{Scene}
use Rattle.idl_scene.specs.Structs as sizes
use Rattle.idl_scene.specs.Structs.{default_size, type_size, struct_size, struct_depth}
use Rattle.idl_scene.specs.Types as check
use Rattle.idl_scene.specs.Types.{meaning_of, one_deeper}
use Rattle.idl_schema.specs.Agreement.{Agrees, place_in}
use Rattle.idl_schema.specs.SchemaOf.{default_value, literal_value, word_value, member_of}
use Rattle.idl_schema.proofs.Meant.{name_means, meant_size, size_at}
use Rattle.idl_schema.proofs.TypeFits.{Unfaulted, written, name_at, basic_at, vector_at, map_at, known_name, itself, type_deep, capped, capped_one, capped_both, basic_plain}

-- ---- values without others in them

num_size : (n : _) → value_size (values.Num n) ≡ 1
num_size n = size_at (values.Num n) (value.Num n) (outs-Num n)

bool_size : (b : Bool) → value_size (values.Bool b) ≡ 1
bool_size b = size_at (values.Bool b) (value.Bool b) (outs-Truth b)

text_size : (bytes : List ℕ) → value_size (values.Text bytes) ≡ 1
text_size bytes = size_at (values.Text bytes) (value.Text bytes) (outs-Words bytes)

blob_size : (bytes : List ℕ) → value_size (values.Blob bytes) ≡ 1
blob_size bytes = size_at (values.Blob bytes) (value.Blob bytes) (outs-Blob bytes)

no_list_size : value_size (values.List []) ≡ 1
no_list_size = size_at (values.List []) (value.List []) (outs-List [])

no_map_size : value_size (values.Map []) ≡ 1
no_map_size = size_at (values.Map []) (value.Map []) (outs-Pairs [])

word_size : (form : LiteralWord) (bytes : List ℕ) → value_size (word_value form bytes) ≡ 1
word_size words.Number bytes = num_size _
word_size words.Fraction bytes = num_size _
word_size words.Text bytes = text_size _
word_size words.True bytes = bool_size true
word_size words.False bytes = bool_size false

plain_size : (d : Declared) (l : ty.Ty-F Ty) → is_plain l ≡ true → value_size (default_layer d l) ≡ 1
plain_size d ty.Bool is = bool_size false
plain_size d ty.Text is = text_size []
plain_size d (ty.Enum number) is = cc
plain_size d (ty.Struct number) is = cc
plain_size d (ty.Vector of) is = cc
plain_size d (ty.Map key to) is = cc
plain_size d _ is = num_size _

vector_size : (b : Bool) → value_size (cond b (values.Blob []) (values.List [])) ≡ 1
vector_size true = blob_size []
vector_size false = no_list_size

-- ---- capped sizes

capped_more : (a b : ℕ) → sizes.capped (sizes.capped a + b) ≡ sizes.capped (a + b)
capped_more a b = grind (arith, nat_tests)

pub small_size : (n : ℕ) → nat_lt 1024 (sizes.capped n) ≡ false → (n ≤ 1024) × (sizes.capped n ≡ n)
small_size n e = (grind (arith, nat_tests), grind (arith, nat_tests))

pub small_depth : (n : ℕ) → nat_lt 32 (capped n) ≡ false → (n ≤ 32) × (capped n ≡ n)
small_depth n e = (grind (arith, nat_tests), grind (arith, nat_tests))

module _ (s : Scene) (d : Declared) (agrees : Agrees (record { known = s.known; room = s.room }) d) where
  default_of_size : {t : TypeTree} → TypeIn s.text t → Unfaulted s t → value_size (default_of d (written s d t)) ≡ type_size s (out-TypeTree t)
  default_of_size {t} (tree.basic {at = at} {word = w} is) un =
      ap (λ t. value_size (default_of d t)) (basic_at s d agrees t at w is) ∙ plain_size d _ (basic_plain w) ∙ sym (ap (type_size s) (ap out-TypeTree is ∙ outs-Basic at w))
  default_of_size {t} (tree.named {name = name} is inside) un =
      ap (λ t. value_size (default_of d t)) (name_at s d agrees t name is)
      ∙ meant_size d (meaning_of s name) _ _ (name_means s d agrees name) (known_name s d agrees t name is un) ∙ sym (ap (type_size s) (ap out-TypeTree is ∙ outs-Named name))
  default_of_size {t} (tree.vector {element = element} {at = at} is inside) un =
      ap (λ t. value_size (default_of d t)) (vector_at s d agrees t at element is) ∙ ap (λ l. value_size (default_layer d l)) (outs-Vec (written s d element))
      ∙ vector_size (is_byte (out-Ty (written s d element))) ∙ sym (ap (type_size s) (ap out-TypeTree is ∙ outs-Vector at element))
  default_of_size {t} (tree.map {key = k} {value = v} {at = at} is a b) un =
      ap (λ t. value_size (default_of d t)) (map_at s d agrees t at k v is) ∙ ap (λ l. value_size (default_layer d l)) (outs-Table (written s d k) (written s d v))
      ∙ no_map_size ∙ sym (ap (type_size s) (ap out-TypeTree is ∙ outs-Map at k v))

  literal_size : (t : Ty) (l : Literal) → value_size (literal_value (place_in d s) t l) ≡ 1
  literal_size t (literals.Word form span) = word_size form _
  literal_size t (literals.Named name) = num_size _

  default_is : {t : TypeTree} → TypeIn s.text t → Unfaulted s t → (o : Option Literal) → value_size (default_value (place_in d s) (written s d t) o) ≡ default_size s (out-TypeTree t) o
  default_is inside un None = default_of_size inside un
  default_is {t} inside un (Some l) = literal_size (written s d t) l

  abbrev pub SoundType : MemberTree → Type 0
  SoundType m = TypeIn s.text m.typed.ty × AllByRecursion (Unfaulted s) (check.types_in m.typed.ty)

  abbrev members : List MemberTree → List Member
  members ms = map (member_of (place_in d s)) ms

  size_from : (so_far : ℕ) (ms : List MemberTree) → AllByRecursion SoundType ms
      → fold (λ size (m : MemberTree). sizes.capped (size + default_size s (out-TypeTree m.typed.ty) m.default)) (sizes.capped so_far) ms ≡ sizes.capped (so_far + add_up (map (λ (m : Member). value_size m.default) (members ms)))
  size_from so_far [] sound = let none : so_far + 0 ≡ so_far = omega arith in ap sizes.capped (sym none)
  size_from so_far (m ∷ ms) sound =
      let here = default_is sound.0.0 (itself s d agrees sound.0.0 sound.0.1) m.default in
      let n : ℕ = value_size (default_value (place_in d s) (written s d m.typed.ty) m.default) in
      let rest : ℕ = add_up (map (λ (m : Member). value_size m.default) (members ms)) in
      let regroup : (so_far + n) + rest ≡ so_far + (n + rest) = omega arith in
      ap (λ k. fold (λ size (m : MemberTree). sizes.capped (size + default_size s (out-TypeTree m.typed.ty) m.default)) k ms) (ap (λ k. sizes.capped (sizes.capped so_far + k)) (sym here) ∙ capped_more so_far n)
      ∙ size_from (so_far + n) ms sound.1 ∙ ap sizes.capped regroup

  pub size_is : (ms : List MemberTree) → AllByRecursion SoundType ms → struct_size s ms ≡ sizes.capped (suc (add_up (map (λ (m : Member). value_size m.default) (members ms))))
  size_is ms sound =
      let one : 1 + add_up (map (λ (m : Member). value_size m.default) (members ms)) ≡ suc (add_up (map (λ (m : Member). value_size m.default) (members ms))) = omega arith in
      size_from 1 ms sound ∙ ap sizes.capped one

  greater_both : (a b c : ℕ) → greater (greater a b) c ≡ greater a (greater b c)
  greater_both a b c = grind (arith, nat_tests)

  depth_from : (so_far : ℕ) (ms : List MemberTree) → AllByRecursion SoundType ms
      → fold (λ depth (m : MemberTree). greater depth (check.type_depth s m.typed.ty)) (capped so_far) ms ≡ capped (greater so_far (model.deepest (depths_of d.structs) (members ms)))
  depth_from so_far [] sound = ap capped (none so_far)
    where
      none : (a : ℕ) → a ≡ greater a 0
      none a = grind (arith, nat_tests)
  depth_from so_far (m ∷ ms) sound =
      let n : ℕ = model.type_depth (depths_of d.structs) (written s d m.typed.ty) in
      ap (λ k. fold (λ depth (m : MemberTree). greater depth (check.type_depth s m.typed.ty)) k ms) (ap (greater (capped so_far)) (type_deep s d agrees sound.0.0 sound.0.1) ∙ capped_both so_far n)
      ∙ depth_from (greater so_far n) ms sound.1 ∙ ap capped (greater_both so_far n (model.deepest (depths_of d.structs) (members ms)))

  pub depth_is : (ms : List MemberTree) → AllByRecursion SoundType ms → struct_depth s ms ≡ capped (suc (model.deepest (depths_of d.structs) (members ms)))
  depth_is ms sound =
      ap one_deeper (depth_from 0 ms sound ∙ ap capped (none (model.deepest (depths_of d.structs) (members ms)))) ∙ capped_one (model.deepest (depths_of d.structs) (members ms))
    where
      none : (a : ℕ) → greater 0 a ≡ a
      none a = grind (arith, nat_tests)
