-- The type that a name means.
use Rattle.std.proofs.Common.{◌≡◌, ◌≤◌, ℕ, suc, Bool, true, false, ◌||◌, Option, Some, None, List, [], ◌∷◌, length, map, refl, sym, ap, ◌∙◌, subst, arith}
use Rattle.tars_model.specs.Declarations.{Declared, members_at}
use Rattle.tars_model.specs.Schemas.{add_up, value_size, size_layer, size_pair}
use Rattle.tars_model.specs.Types.{IsType, struct, enum, is_key, is_plain, nesting, nesting_layer, type_depth, depth_layer, depths_of}
use Rattle.tars_model.specs.Values.{default_of, default_layer, defaults_of}
use Rattle.tars_model.specs.declared.member.Member.{Member}
use Rattle.tars_model.specs.declared.ty.Ty.{Ty, out-Ty, map-Ty, fold_out-Ty}
use Rattle.tars_model.specs.declared.ty.Ty.TheOpen as ty
use Rattle.tars_model.specs.declared.ty.Ty.TheVariants as tys
use Rattle.tars_model.specs.declared.ty.Ty.TheVariants.{outs-Enum, outs-Struct}
use Rattle.tars_model.specs.declared.value.Pair.{Pair, fold-Pair}
use Rattle.tars_model.specs.declared.value.Value.{Value, out-Value, map-Value, fold_out-Value}
use Rattle.tars_model.specs.declared.value.Value.TheOpen as value
use Rattle.tars_model.specs.declared.value.Value.TheVariants as values
use Rattle.tars_model.specs.declared.value.Value.TheVariants.{outs-Num, outs-Struct as outs-Members}
use Rattle.idl_lex.specs.declared.span.Span.{Span}
use Rattle.idl_parse.specs.declared.tree.type_tree.ScopedName.{ScopedName}
use Rattle.idl_scene.specs.Items.{word}
use Rattle.idl_scene.specs.Known.{Meaning, Scene, is_struct, is_enum, depth_of, size_of}
use Rattle.idl_scene.specs.Types.{home_at, meaning_of, is_type}
use Rattle.idl_schema.specs.Agreement.{MeansIn, struct_meant, enum_meant, no_type_meant, Agrees, place_in}
use Rattle.idl_schema.specs.SchemaOf.{or_any, struct_or_enum, module_of, struct_number, enum_number}

abbrev pub meant_type : Option ℕ → Option ℕ → Ty
meant_type s e = or_any (struct_or_enum s e)

pub struct_type : (s e : Option ℕ) (number : ℕ) → s ≡ Some number → meant_type s e ≡ tys.Struct number
struct_type s e number is = ap (λ o. meant_type o e) is

pub enum_type : (s e : Option ℕ) (number : ℕ) → s ≡ None → e ≡ Some number → meant_type s e ≡ tys.Enum number
enum_type s e number no_struct is = ap (λ o. meant_type o e) no_struct ∙ ap (λ o. meant_type None o) is

clash : {A : Type 0} (b : Bool) → b ≡ true → b ≡ false → A
clash true a b = absurd cc
clash false a b = absurd cc

-- ---- folds at a struct and at an enum

pub depth_at : (depths : List ℕ) (t : Ty) (l : ty.Ty-F Ty) → out-Ty t ≡ l → type_depth depths t ≡ depth_layer depths (map-Ty Ty ℕ (type_depth depths) l)
depth_at depths t l e = fold_out-Ty ℕ (depth_layer depths) t ∙ ap (λ l. depth_layer depths (map-Ty Ty ℕ (type_depth depths) l)) e

pub nesting_at : (t : Ty) (l : ty.Ty-F Ty) → out-Ty t ≡ l → nesting t ≡ nesting_layer (map-Ty Ty ℕ nesting l)
nesting_at t l e = fold_out-Ty ℕ nesting_layer t ∙ ap (λ l. nesting_layer (map-Ty Ty ℕ nesting l)) e

abbrev pair_size : Pair → ℕ × ℕ
pair_size p = fold-Pair ℕ (ℕ × ℕ) size_layer size_pair p

pub size_at : (v : Value) (l : value.Value-F Value Pair) → out-Value v ≡ l → value_size v ≡ size_layer (map-Value Value Pair ℕ (ℕ × ℕ) value_size pair_size l)
size_at v l e = fold_out-Value ℕ (ℕ × ℕ) size_layer size_pair v ∙ ap (λ l. size_layer (map-Value Value Pair ℕ (ℕ × ℕ) value_size pair_size l)) e

defaults_size : (ms : List Member) → map value_size (defaults_of ms) ≡ map (λ (m : Member). value_size m.default) ms
defaults_size [] = refl
defaults_size (m ∷ ms) = ap (λ l. value_size m.default ∷ l) (defaults_size ms)

module _ (d : Declared) (meaning : Option Meaning) (s e : Option ℕ) where
  pub meant_is_type : MeansIn d meaning s e → is_type meaning ≡ true → IsType (length d.enums) (length d.structs) (meant_type s e)
  meant_is_type (struct_meant {number = number} m is st) is_one = subst (IsType (length d.enums) (length d.structs)) (sym (struct_type s e number is)) (struct (outs-Struct number) st.within)
  meant_is_type (enum_meant {number = number} m no_struct is en) is_one = subst (IsType (length d.enums) (length d.structs)) (sym (enum_type s e number no_struct is)) (enum (outs-Enum number) en.within)
  meant_is_type (no_type_meant none a b) is_one = clash (is_type meaning) is_one none

  pub meant_is_key : MeansIn d meaning s e → is_enum meaning ≡ true → is_key (out-Ty (meant_type s e)) ≡ true
  meant_is_key (struct_meant m is st) is_one = clash (is_enum meaning) is_one (ap is_enum m)
  meant_is_key (enum_meant {number = number} m no_struct is en) is_one = ap is_key (ap out-Ty (enum_type s e number no_struct is) ∙ outs-Enum number)
  meant_is_key (no_type_meant none a b) is_one = clash (is_type meaning) (enum_is_type meaning is_one) none
    where
      enum_is_type : (m : Option Meaning) → is_enum m ≡ true → is_type m ≡ true
      enum_is_type m e = either_true (is_struct m) (is_enum m) e
        where
          either_true : (a b : Bool) → b ≡ true → (a || b) ≡ true
          either_true true b e = refl
          either_true false b e = e

  -- it is no word
  pub meant_refers : MeansIn d meaning s e → is_type meaning ≡ true → is_plain (out-Ty (meant_type s e)) ≡ false
  meant_refers (struct_meant {number = number} m is st) is_one = ap is_plain (ap out-Ty (struct_type s e number is) ∙ outs-Struct number)
  meant_refers (enum_meant {number = number} m no_struct is en) is_one = ap is_plain (ap out-Ty (enum_type s e number no_struct is) ∙ outs-Enum number)
  meant_refers (no_type_meant none a b) is_one = clash (is_type meaning) is_one none

  -- the depth of values
  pub meant_depth : MeansIn d meaning s e → is_type meaning ≡ true → (depth_of meaning ≡ type_depth (depths_of d.structs) (meant_type s e)) × (depth_of meaning ≤ 32)
  meant_depth (struct_meant {number = number} {depth = depth} m is st) is_one = (
    ap depth_of m ∙ sym st.deep ∙ sym (depth_at (depths_of d.structs) (meant_type s e) (ty.Struct number) (ap out-Ty (struct_type s e number is) ∙ outs-Struct number)),
    subst (λ (n : ℕ). n ≤ 32) (sym (ap depth_of m)) st.shallow,
  )
  meant_depth (enum_meant {number = number} m no_struct is en) is_one = (
    ap depth_of m ∙ sym (depth_at (depths_of d.structs) (meant_type s e) (ty.Enum number) (ap out-Ty (enum_type s e number no_struct is) ∙ outs-Enum number)),
    subst (λ (n : ℕ). n ≤ 32) (sym (ap depth_of m)) zero_small,
  )
    where
      zero_small : 0 ≤ 32
      zero_small = omega arith
  meant_depth (no_type_meant none a b) is_one = clash (is_type meaning) is_one none

  pub meant_nesting : MeansIn d meaning s e → is_type meaning ≡ true → nesting (meant_type s e) ≡ 1
  meant_nesting (struct_meant {number = number} m is st) is_one = nesting_at (meant_type s e) (ty.Struct number) (ap out-Ty (struct_type s e number is) ∙ outs-Struct number)
  meant_nesting (enum_meant {number = number} m no_struct is en) is_one = nesting_at (meant_type s e) (ty.Enum number) (ap out-Ty (enum_type s e number no_struct is) ∙ outs-Enum number)
  meant_nesting (no_type_meant none a b) is_one = clash (is_type meaning) is_one none

  -- how many values the default has
  pub meant_size : MeansIn d meaning s e → is_type meaning ≡ true → value_size (default_of d (meant_type s e)) ≡ size_of meaning
  meant_size (struct_meant {number = number} m is st) is_one =
      ap (λ t. value_size (default_of d t)) (struct_type s e number is) ∙ ap (λ l. value_size (default_layer d l)) (outs-Struct number)
      ∙ size_at (values.Struct (defaults_of (members_at d number))) (value.Struct (defaults_of (members_at d number))) (outs-Members (defaults_of (members_at d number)))
      ∙ ap (λ l. suc (add_up l)) (defaults_size (members_at d number)) ∙ st.sized ∙ sym (ap size_of m)
  meant_size (enum_meant {number = number} m no_struct is en) is_one =
      ap (λ t. value_size (default_of d t)) (enum_type s e number no_struct is) ∙ ap (λ l. value_size (default_layer d l)) (outs-Enum number)
      ∙ size_at (values.Num _) (value.Num _) (outs-Num _) ∙ sym (ap size_of m)
  meant_size (no_type_meant none a b) is_one = clash (is_type meaning) is_one none

-- a name where it stands
pub name_means : (s : Scene) (d : Declared) → Agrees (record { known = s.known; room = s.room }) d → (name : ScopedName)
    → MeansIn d (meaning_of s name) (struct_number d (module_of (place_in d s) name.scope) (word s.text name.name)) (enum_number d (module_of (place_in d s) name.scope) (word s.text name.name))
name_means s d agrees name =
    subst (λ (h : List ℕ). MeansIn d (meaning_of s name) (struct_number d h (word s.text name.name)) (enum_number d h (word s.text name.name)))
    (same_home name.scope) (agrees.means (home_at s name.scope) (word s.text name.name))
  where
    same_home : (scope : Option Span) → home_at s scope ≡ module_of (place_in d s) scope
    same_home None = refl
    same_home (Some scope) = refl
