-- The functions of a schema's interfaces, and the members that stand for their arguments and replies.
use Rattle.std.proofs.Common.{◌≡◌, ◌<◌, ◌≤◌, ◌+◌, ℕ, Bool, true, cond, List, [], ◌∷◌, ◌++◌, length, slice_index_or, Option, Some, None, refl, sym, subst, arith, length-append, false}
use Rattle.std.specs.List.{All}
use Rattle.std.proofs.lemmas.List.Elements.{All-append, All-cons, All-head, All-tail}
use Rattle.tars_model.specs.Declarations.{Declared}
use Rattle.tars_model.specs.Members.{MAX_PARAMS, required, goes, params_from, arguments_of, reply_members_of, IsBelowNext, HaveRisingTags}
use Rattle.tars_model.specs.Schemas.{IsSchema, IsReturned, FuncFits, InterfaceFits}
use Rattle.tars_model.specs.Schemas as made
use Rattle.tars_model.specs.Types.{IsType}
use Rattle.tars_model.specs.declared.func_desc.FuncDesc.{FuncDesc}
use Rattle.tars_model.specs.declared.func_desc.Param.{Param}
use Rattle.tars_model.specs.declared.interface_desc.InterfaceDesc.{InterfaceDesc}
use Rattle.tars_model.specs.declared.member.Member.{Member}
use Rattle.tars_model.specs.declared.ty.Ty.{Ty}
use Rattle.tars_decode.specs.Decoding.{MembersFit}
use Rattle.tars_decode.proofs.CallerLemmas.{required_members_fit}

-- ---- the functions of a schema

abbrev pub ReturnsType : ℕ → ℕ → Option Ty → Type 0
ReturnsType enums structs None = Unit {0}
ReturnsType enums structs (Some t) = IsType enums structs t

-- few parameters, of types over so many enums and structs
pub record IsFuncOver (enums structs : ℕ) (func : FuncDesc) : Type 0 where
  pub few : length func.params ≤ MAX_PARAMS
  pub ret : ReturnsType enums structs func.ret
  pub params : All (λ (p : Param). IsType enums structs p.ty) func.params

-- at most 256 functions of that kind
pub record IsInterfaceOver (enums structs : ℕ) (i : InterfaceDesc) : Type 0 where
  pub few : length i.funcs ≤ 256
  pub funcs : All (IsFuncOver enums structs) i.funcs

abbrev pub AreFuncsOver : ℕ → ℕ → List InterfaceDesc → Type 0
AreFuncsOver enums structs interfaces = All (IsInterfaceOver enums structs) interfaces

module _ (a b m n : ℕ) (more_enums : a ≤ b) (more_structs : m ≤ n) where
  type_grows : {t : Ty} → IsType a m t → IsType b n t
  type_grows (IsType.plain p) = IsType.plain p
  type_grows (IsType.enum is lt) = IsType.enum is (omega arith)
  type_grows (IsType.struct is lt) = IsType.struct is (omega arith)
  type_grows (IsType.vector is other of_type) = IsType.vector is other (type_grows of_type)
  type_grows (IsType.map is key_is key_type to_type) = IsType.map is key_is (type_grows key_type) (type_grows to_type)

  return_grows : (ret : Option Ty) → ReturnsType a m ret → ReturnsType b n ret
  return_grows None h = h
  return_grows (Some t) h = type_grows h

  func_grows : (func : FuncDesc) → IsFuncOver a m func → IsFuncOver b n func
  func_grows func h = record { few = h.few; ret = return_grows func.ret h.ret; params = λ k p within. type_grows (h.params k p within) }

  funcs_grow : (interfaces : List InterfaceDesc) → AreFuncsOver a m interfaces → AreFuncsOver b n interfaces
  funcs_grow interfaces h = λ k i within. record {
    few = (h k i within).few;
    funcs = λ j func inside. func_grows (slice_index_or (slice_index_or interfaces k i).funcs j func) ((h k i within).funcs j func inside);
  }

abbrev Funcs : Declared → Type 0
Funcs d = AreFuncsOver (length d.enums) (length d.structs) d.interfaces

return_is_type : (d : Declared) (ret : Option Ty) → IsReturned d ret → ReturnsType (length d.enums) (length d.structs) ret
return_is_type d None h = h
return_is_type d (Some t) h = h.is_type

func_fits : (d : Declared) (func : FuncDesc) → FuncFits d func → IsFuncOver (length d.enums) (length d.structs) func
func_fits d func h = record { few = h.few; ret = return_is_type d func.ret h.ret; params = λ k p within. (h.types k p within).is_type }

one_more : (d : Declared) (i : InterfaceDesc) → Funcs d → InterfaceFits d i → AreFuncsOver (length d.enums) (length d.structs) (d.interfaces ++ i ∷ [])
one_more d i before fit =
    let Own : InterfaceDesc → Type 0 = IsInterfaceOver (length d.enums) (length d.structs) in
    let last : Own i = record { few = fit.few; funcs = λ k func within. func_fits d (slice_index_or i.funcs k func) (fit.funcs k func within) } in
    All-append Own d.interfaces (i ∷ []) before (All-cons Own i [] last (λ k i within. absurd (omega arith)))

pub funcs_over : {d : Declared} → IsSchema d → Funcs d
funcs_over {d} (made.nothing is) = subst Funcs (sym is) (λ k i within. absurd (omega arith))
funcs_over (made.struct {d = d} {s = s} schema fit is) = subst Funcs (sym is) (funcs_grow _ _ _ _ (omega arith) (omega (arith, length-append d.structs (s ∷ []))) d.interfaces (funcs_over schema))
funcs_over (made.enum {d = d} {desc = x} schema fit is) = subst Funcs (sym is) (funcs_grow _ _ _ _ (omega (arith, length-append d.enums (x ∷ []))) (omega arith) d.interfaces (funcs_over schema))
funcs_over (made.const schema fit is) = subst Funcs (sym is) (funcs_over schema)
funcs_over (made.key schema fit is) = subst Funcs (sym is) (funcs_over schema)
funcs_over (made.interface {d = d} {i = i} schema fit is) = subst Funcs (sym is) (one_more d i (funcs_over schema) fit)

-- ---- their members

-- a required member, of such a type
record IsRequired (P : Ty → Type 0) (m : Member) : Type 0 where
  require : m.require ≡ true
  type : P m.ty

-- What is said of a list of members by its first parameters holds of `params_from`, in both directions.
module _ {D : Type 0} (members_from : ℕ → D → List Param → List Member) (goes_by : D → Param → Bool)
    (none_left : (from : ℕ) (direction : D) → members_from from direction [] ≡ [])
    (next : (from : ℕ) (direction : D) (p : Param) (ps : List Param) → members_from from direction (p ∷ ps)
    ≡ cond (goes_by direction p) (required from p.ty p.name ∷ members_from (from + 1) direction ps) (members_from (from + 1) direction ps))
  where
    below_next : (tag from : ℕ) (direction : D) (ps : List Param) → tag < from → IsBelowNext tag (members_from from direction ps)
    below_next tag from direction [] lt = rw (none_left from direction) (record {})
    below_next tag from direction (p ∷ ps) lt = rw (next from direction p ps) (by_test (goes_by direction p) (below_next tag (from + 1) direction ps (omega arith)))
      where
        by_test : (b : Bool) → IsBelowNext tag (members_from (from + 1) direction ps)
            → IsBelowNext tag (cond b (required from p.ty p.name ∷ members_from (from + 1) direction ps) (members_from (from + 1) direction ps))
        by_test true later = lt
        by_test false later = later

    tags_rise : (from : ℕ) (direction : D) (ps : List Param) → HaveRisingTags (members_from from direction ps)
    tags_rise from direction [] = rw (none_left from direction) (record {})
    tags_rise from direction (p ∷ ps) = rw (next from direction p ps) (by_test (goes_by direction p) (tags_rise (from + 1) direction ps))
      where
        by_test : (b : Bool) → HaveRisingTags (members_from (from + 1) direction ps)
            → HaveRisingTags (cond b (required from p.ty p.name ∷ members_from (from + 1) direction ps) (members_from (from + 1) direction ps))
        by_test true later = (below_next from (from + 1) direction ps (omega arith), later)
        by_test false later = later

    all_required : (P : Ty → Type 0) (from : ℕ) (direction : D) (ps : List Param) → All (λ (p : Param). P p.ty) ps → All (IsRequired P) (members_from from direction ps)
    all_required P from direction [] all = rw (none_left from direction) (λ k m within. absurd (omega arith))
    all_required P from direction (p ∷ ps) all =
        rw (next from direction p ps) (by_test (goes_by direction p) (all_required P (from + 1) direction ps (All-tail (λ (p : Param). P p.ty) p ps all)))
      where
        by_test : (b : Bool) → All (IsRequired P) (members_from (from + 1) direction ps)
            → All (IsRequired P) (cond b (required from p.ty p.name ∷ members_from (from + 1) direction ps) (members_from (from + 1) direction ps))
        by_test true later =
            All-cons (IsRequired P) (required from p.ty p.name) (members_from (from + 1) direction ps)
            (record { require = refl; type = All-head (λ (p : Param). P p.ty) p ps all }) later
        by_test false later = later

arguments_rise : (func : FuncDesc) → HaveRisingTags (arguments_of func)
arguments_rise func = tags_rise params_from goes (λ from direction. refl) (λ from direction p ps. refl) 1 _ func.params

abbrev IsOver : ℕ → ℕ → Member → Type 0
IsOver enums structs m = IsRequired (λ t. IsType enums structs t) m

arguments_required : (enums structs : ℕ) (func : FuncDesc) → IsFuncOver enums structs func → All (IsOver enums structs) (arguments_of func)
arguments_required enums structs func over =
    all_required params_from goes (λ from direction. refl) (λ from direction p ps. refl) (λ t. IsType enums structs t) 1 _ func.params over.params

reply_rises : (func : FuncDesc) → HaveRisingTags (reply_members_of func)
reply_rises func = by_return func.ret
  where
    by_return : (ret : Option Ty) → HaveRisingTags (reply_members_of (record func { ret = ret }))
    by_return None = tags_rise params_from goes (λ from direction. refl) (λ from direction p ps. refl) 1 _ func.params
    by_return (Some t) = (
      below_next params_from goes (λ from direction. refl) (λ from direction p ps. refl) 0 1 _ func.params (omega arith),
      tags_rise params_from goes (λ from direction. refl) (λ from direction p ps. refl) 1 _ func.params,
    )

reply_required : (enums structs : ℕ) (func : FuncDesc) → IsFuncOver enums structs func → All (IsOver enums structs) (reply_members_of func)
reply_required enums structs func over = by_return func.ret over.ret
  where
    by_return : (ret : Option Ty) → ReturnsType enums structs ret → All (IsOver enums structs) (reply_members_of (record func { ret = ret }))
    by_return None type = all_required params_from goes (λ from direction. refl) (λ from direction p ps. refl) (λ t. IsType enums structs t) 1 _ func.params over.params
    by_return (Some t) type =
        All-cons (IsOver enums structs) (required 0 t []) _ (record { require = refl; type = type })
        (all_required params_from goes (λ from direction. refl) (λ from direction p ps. refl) (λ t. IsType enums structs t) 1 _ func.params over.params)

required_ones : (enums structs : ℕ) (ms : List Member) → All (IsOver enums structs) ms → All (λ (m : Member). m.require ≡ true) ms
required_ones enums structs ms all = λ k m within. (all k m within).require

module _ (d : Declared) (func : FuncDesc) (over : IsFuncOver (length d.enums) (length d.structs) func) where
  pub arguments_fit : MembersFit d (arguments_of func)
  arguments_fit =
      required_members_fit d (arguments_of func) (arguments_rise func)
      (required_ones (length d.enums) (length d.structs) (arguments_of func) (arguments_required (length d.enums) (length d.structs) func over))

  pub reply_fit : MembersFit d (reply_members_of func)
  reply_fit =
      required_members_fit d (reply_members_of func) (reply_rises func)
      (required_ones (length d.enums) (length d.structs) (reply_members_of func) (reply_required (length d.enums) (length d.structs) func over))
