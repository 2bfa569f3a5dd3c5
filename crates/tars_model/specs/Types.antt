-- Types that may be written (docs/IDL.md, "Rules").
use Rattle.std.specs.Prelude.{◌≡◌, ◌≢◌, ◌<◌, ℕ, suc, Bool, true, false, if◌then◌else◌, nat_le, List, [], ◌∷◌, ◌++◌, slice_index}
use Rattle.tars_model.specs.declared.member.Member.{Member}
use Rattle.tars_model.specs.declared.struct_desc.StructDesc.{StructDesc}
use Rattle.tars_model.specs.declared.ty.Ty.{Ty, out-Ty, fold-Ty}
use Rattle.tars_model.specs.declared.ty.Ty.TheOpen as ty

-- one level of a type, as `out-Ty` opens it
abbrev pub TyLayer : Type 0
TyLayer = ty.Ty-F Ty

-- a type that refers to no other
abbrev pub is_plain : TyLayer → Bool
is_plain (ty.Enum number) = false
is_plain (ty.Struct number) = false
is_plain (ty.Vector of) = false
is_plain (ty.Map key value) = false
is_plain _ = true

-- a type whose values may be the keys of a map
abbrev pub is_key : TyLayer → Bool
is_key ty.Bool = false
is_key (ty.Struct number) = false
is_key (ty.Vector of) = false
is_key (ty.Map key value) = false
is_key _ = true

-- a type over so many enums and structs: it refers to these alone, and has no `vector<unsigned byte>`
pub data IsType (enums structs : ℕ) : Ty → Type 0 where
  plain : {t : Ty} → is_plain (out-Ty t) ≡ true → IsType enums structs t
  enum : {t : Ty} {number : ℕ} → out-Ty t ≡ ty.Enum number → number < enums → IsType enums structs t
  struct : {t : Ty} {number : ℕ} → out-Ty t ≡ ty.Struct number → number < structs → IsType enums structs t
  vector : {t of : Ty} → out-Ty t ≡ ty.Vector of → out-Ty of ≢ ty.UByte → IsType enums structs of → IsType enums structs t
  map : {t key value : Ty} → out-Ty t ≡ ty.Map key value → is_key (out-Ty key) ≡ true → IsType enums structs key → IsType enums structs value → IsType enums structs t

abbrev pub greater : ℕ → ℕ → ℕ
greater a b = if nat_le a b then b else a

-- how many types stand one inside the other, the innermost counted
abbrev pub nesting_layer : ty.Ty-F ℕ → ℕ
nesting_layer (ty.Vector of) = suc of
nesting_layer (ty.Map key value) = suc (greater key value)
nesting_layer _ = 1

abbrev pub nesting : Ty → ℕ
nesting t = fold-Ty ℕ nesting_layer t

-- how deep values of a type are at most, where the structs have these depths
abbrev pub depth_layer : List ℕ → ty.Ty-F ℕ → ℕ
depth_layer depths (ty.Struct number) = slice_index depths number
depth_layer depths (ty.Vector of) = suc of
depth_layer depths (ty.Map key value) = suc (greater key value)
depth_layer depths _ = 0

abbrev pub type_depth : List ℕ → Ty → ℕ
type_depth depths t = fold-Ty ℕ (depth_layer depths) t

abbrev pub deepest : List ℕ → List Member → ℕ
deepest depths [] = 0
deepest depths (m ∷ members) = greater (type_depth depths m.ty) (deepest depths members)

-- the depths of structs, each of which refers to those before it
abbrev pub depths_after : List ℕ → List StructDesc → List ℕ
depths_after depths [] = depths
depths_after depths (s ∷ structs) = depths_after (depths ++ suc (deepest depths s.members) ∷ []) structs

abbrev pub depths_of : List StructDesc → List ℕ
depths_of structs = depths_after [] structs
