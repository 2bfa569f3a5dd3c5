-- The members of a function of a schema may be written and read: their types are not deep, and their tags are bytes.
use Rattle.std.proofs.Common.{◌≡◌, ◌<◌, ◌≤◌, ◌+◌, ℕ, suc, Bool, true, false, ◌||◌, ◌==◌, cond, List, [], ◌∷◌, ◌++◌, length, get_or, Option, Some, None, refl, sym, subst, arith, lit<, pos}
use Rattle.std.specs.Prelude.{slice_get}
use Rattle.std.specs.Char.{is_ascii_alphanumeric}
use Rattle.std.specs.List.{All, list_all}
use Rattle.std.proofs.lemmas.Bool.{and_parts}
use Rattle.std.proofs.lemmas.Bool.Decides.{nat_tests}
use Rattle.std.proofs.lemmas.List.Elements.{All-append, All-cons, All-nil, All-head, All-tail}
use Rattle.std.proofs.lemmas.Option.{get_or_from_slice_get, slice_get_within}
use Rattle.tars_model.specs.Declarations.{Declared}
use Rattle.tars_model.specs.Members.{required, goes, params_from, arguments_of, reply_members_of}
use Rattle.tars_model.specs.Schemas.{IsSchema, IsReturned, FuncFits, InterfaceFits}
use Rattle.tars_model.specs.Types.{IsType, type_depth, deepest, depths_of}
use Rattle.tars_model.specs.declared.func_desc.FuncDesc.{FuncDesc}
use Rattle.tars_model.specs.declared.func_desc.Param.{Param}
use Rattle.tars_model.specs.declared.interface_desc.InterfaceDesc.{InterfaceDesc}
use Rattle.tars_model.specs.declared.member.Member.{Member}
use Rattle.tars_model.specs.declared.struct_desc.StructDesc.{StructDesc}
use Rattle.tars_model.specs.declared.ty.Ty.{Ty}
use Rattle.tars_decode.specs.Decoding.{MembersFit}
use Rattle.tars_codec.specs.Written.{IsShallow, AreShallow}
use Rattle.tars_versions.proofs.Induction.{AllOf}
use Rattle.tars_versions.proofs.SchemaTypes.{depth_stays, depths_more, depths_length}
use Rattle.wire_reading.specs.Readings.{AreBytes}
use Rattle.servant_core.specs.Functions.{functions_in, functions_of}
use Rattle.servant_core.proofs.Functions.{ReturnsType, IsFuncOver, funcs_over}
use Rattle.servant_core.proofs.FuncsAt.{func_over, arguments_at_fit, reply_at_fit}
use Rattle.run_answers.proofs.ValueBytes.{num_has}
use Rattle.run_answers.proofs.SchemaBytes.{IsByteMember}

-- ---- the types of functions are not deep

abbrev IsFlat : List ℕ → Ty → Type 0
IsFlat depths t = type_depth depths t ≤ 32

abbrev ReturnsFlat : List ℕ → Option Ty → Type 0
ReturnsFlat depths None = Unit {0}
ReturnsFlat depths (Some t) = IsFlat depths t

-- and its name is bytes
record IsFlatFunc (depths : List ℕ) (func : FuncDesc) : Type 0 where
  name : AreBytes func.name
  ret : ReturnsFlat depths func.ret
  params : All (λ (p : Param). IsFlat depths p.ty) func.params

abbrev AreFlat : List ℕ → List InterfaceDesc → Type 0
AreFlat depths interfaces = All (λ (i : InterfaceDesc). All (IsFlatFunc depths) i.funcs) interfaces

abbrev Flat : Declared → Type 0
Flat d = AreFlat (depths_of d.structs) d.interfaces

word_byte : (b : ℕ) → (is_ascii_alphanumeric b || b == 95) ≡ true → b < 256
word_byte b h = grind (arith, nat_tests)

name_bytes : (name : List ℕ) → list_all (λ b. is_ascii_alphanumeric b || b == 95) name ≡ true → AreBytes name
name_bytes [] all = All-nil (λ byte. byte < 256)
name_bytes (b ∷ name) all =
    let parts = and_parts (is_ascii_alphanumeric b || b == 95) (list_all (λ b. is_ascii_alphanumeric b || b == 95) name) all in
    All-cons (λ byte. byte < 256) b name (word_byte b parts.0) (name_bytes name parts.1)

fitting_flat : (d : Declared) (func : FuncDesc) → FuncFits d func → IsFlatFunc (depths_of d.structs) func
fitting_flat d func fit = record { name = name_bytes func.name fit.name.identifier.bytes; ret = by_return func.ret fit.ret; params = λ k p within. (fit.types k p within).bounded }
  where
    by_return : (ret : Option Ty) → IsReturned d ret → ReturnsFlat (depths_of d.structs) ret
    by_return None h = tt
    by_return (Some t) h = h.bounded

-- a struct more leaves the types before it as deep as they were
module _ (d : Declared) (x : StructDesc) where
  abbrev more : List ℕ
  more = depths_of (d.structs ++ x ∷ [])

  type_stays : (t : Ty) → IsType (length d.enums) (length d.structs) t → IsFlat (depths_of d.structs) t → IsFlat more t
  type_stays t type flat =
      let counted = depths_length [] d.structs in
      let same = depth_stays (depths_of d.structs) (suc (deepest (depths_of d.structs) x.members) ∷ []) (length d.enums) (length d.structs) (omega (arith, counted)) type in
      subst (λ depths. type_depth depths t ≤ 32) (sym (depths_more [] d.structs x)) (omega (arith, same, flat))

  return_stays : (ret : Option Ty) → ReturnsType (length d.enums) (length d.structs) ret → ReturnsFlat (depths_of d.structs) ret → ReturnsFlat more ret
  return_stays None type flat = tt
  return_stays (Some t) type flat = type_stays t type flat

  func_stays : (func : FuncDesc) → IsFuncOver (length d.enums) (length d.structs) func → IsFlatFunc (depths_of d.structs) func → IsFlatFunc more func
  func_stays func over flat =
      record {
        name = flat.name;
        ret = return_stays func.ret over.ret flat.ret;
        params = λ k p within. type_stays (get_or func.params k p).ty (over.params k p within) (flat.params k p within);
      }

  all_stay : IsSchema d → Flat d → AreFlat more d.interfaces
  all_stay schema flat k i within j func inside =
      func_stays (get_or (get_or d.interfaces k i).funcs j func) ((funcs_over schema k i within).funcs j func inside) (flat k i within j func inside)

interface_more : (d : Declared) (i : InterfaceDesc) → Flat d → InterfaceFits d i → AreFlat (depths_of d.structs) (d.interfaces ++ i ∷ [])
interface_more d i before fit =
    let Own : InterfaceDesc → Type 0 = λ (j : InterfaceDesc). All (IsFlatFunc (depths_of d.structs)) j.funcs in
    All-append Own d.interfaces (i ∷ []) before
    (All-cons Own i [] (λ k func within. fitting_flat d (get_or i.funcs k func) (fit.funcs k func within)) (All-nil Own))

flat_schema : {d : Declared} → IsSchema d → Flat d
flat_schema {d} (IsSchema.nothing is) = subst Flat (sym is) (λ k i within. absurd (omega arith))
flat_schema (IsSchema.struct {d = d} {s = x} schema fit is) = subst Flat (sym is) (all_stay d x schema (flat_schema schema))
flat_schema (IsSchema.enum schema fit is) = subst Flat (sym is) (flat_schema schema)
flat_schema (IsSchema.const schema fit is) = subst Flat (sym is) (flat_schema schema)
flat_schema (IsSchema.key schema fit is) = subst Flat (sym is) (flat_schema schema)
flat_schema (IsSchema.interface {d = d} {i = i} schema fit is) = subst Flat (sym is) (interface_more d i (flat_schema schema) fit)

flat_func : {d : Declared} → IsSchema d → (interface k : ℕ) (func : FuncDesc) → slice_get (functions_of d interface) k ≡ Some func → IsFlatFunc (depths_of d.structs) func
flat_func {d} schema interface k func found = by_interface (slice_get d.interfaces interface) refl found
  where
    by_interface : (i : Option InterfaceDesc) → slice_get d.interfaces interface ≡ i → slice_get (functions_in i) k ≡ Some func → IsFlatFunc (depths_of d.structs) func
    by_interface None is inside = absurd cc
    by_interface (Some i) is inside =
        let flat : All (IsFlatFunc (depths_of d.structs)) i.funcs =
        subst (λ (j : InterfaceDesc). All (IsFlatFunc (depths_of d.structs)) j.funcs) (get_or_from_slice_get d.interfaces interface i i is)
        (flat_schema schema interface i (slice_get_within d.interfaces interface i is)) in
        subst (IsFlatFunc (depths_of d.structs)) (get_or_from_slice_get i.funcs k func func inside) (flat k func (slice_get_within i.funcs k func inside))

-- ---- members

-- a member that may be written
record IsOpenMember (d : Declared) (m : Member) : Type 0 where
  flat : IsShallow d m
  byte : IsByteMember m

required_open : (d : Declared) (tag : ℕ) (t : Ty) (name : List ℕ) → tag < 256 → IsFlat (depths_of d.structs) t → IsOpenMember d (required tag t name)
required_open d tag t name small flat = record { flat = omega (arith, flat); byte = record { tag = small; default = num_has (pos 0) } }

-- in both directions
module _ {D : Type 0} (d : Declared) (members_from : ℕ → D → List Param → List Member) (goes_by : D → Param → Bool)
    (none_left : (from : ℕ) (direction : D) → members_from from direction [] ≡ [])
    (next : (from : ℕ) (direction : D) (p : Param) (ps : List Param) → members_from from direction (p ∷ ps)
    ≡ cond (goes_by direction p) (required from p.ty p.name ∷ members_from (from + 1) direction ps) (members_from (from + 1) direction ps))
  where
    all_open : (from : ℕ) (direction : D) (ps : List Param) → from + length ps ≤ 65 → All (λ (p : Param). IsFlat (depths_of d.structs) p.ty) ps → All (IsOpenMember d) (members_from from direction ps)
    all_open from direction [] few flat = rw (none_left from direction) (All-nil (IsOpenMember d))
    all_open from direction (p ∷ ps) few flat =
        rw (next from direction p ps) (by_test (goes_by direction p) (all_open (from + 1) direction ps (omega (arith, few)) (All-tail (λ (q : Param). IsFlat (depths_of d.structs) q.ty) p ps flat)))
      where
        by_test : (b : Bool) → All (IsOpenMember d) (members_from (from + 1) direction ps)
            → All (IsOpenMember d) (cond b (required from p.ty p.name ∷ members_from (from + 1) direction ps) (members_from (from + 1) direction ps))
        by_test true later =
            All-cons (IsOpenMember d) (required from p.ty p.name) (members_from (from + 1) direction ps)
            (required_open d from p.ty p.name (omega (arith, few)) (All-head (λ (q : Param). IsFlat (depths_of d.structs) q.ty) p ps flat)) later
        by_test false later = later

-- members that are written and read
pub record AreMembers (d : Declared) (ms : List Member) : Type 0 where
  pub fit : MembersFit d ms
  pub shallow : AreShallow d ms
  pub bytes : AllOf IsByteMember ms

from_open : (d : Declared) (ms : List Member) → MembersFit d ms → All (IsOpenMember d) ms → AreMembers d ms
from_open d ms fit all = record { fit = fit; shallow = λ k m within. (all k m within).flat; bytes = each ms all }
  where
    each : (ms : List Member) → All (IsOpenMember d) ms → AllOf IsByteMember ms
    each [] all = tt
    each (m ∷ ms) all = ((All-head (IsOpenMember d) m ms all).byte, each ms (All-tail (IsOpenMember d) m ms all))

pub no_members : (d : Declared) → AreMembers d []
no_members d =
    record {
      fit = record { rising = tt; defaults = λ k m within. absurd (omega arith) };
      shallow = λ k m within. absurd (omega arith);
      bytes = tt;
    }

module _ {d : Declared} (schema : IsSchema d) (interface k : ℕ) (func : FuncDesc) (found : slice_get (functions_of d interface) k ≡ Some func) where
  few_params : length func.params ≤ 64
  few_params = (func_over schema interface k func found).few

  flat_of : IsFlatFunc (depths_of d.structs) func
  flat_of = flat_func schema interface k func found

  pub func_name : AreBytes func.name
  func_name = flat_of.name

  pub arguments_are : AreMembers d (arguments_of func)
  arguments_are =
      from_open d (arguments_of func) (arguments_at_fit schema interface k func found)
      (all_open d params_from goes (λ from direction. refl) (λ from direction p ps. refl) 1 _ func.params (omega (arith, few_params)) flat_of.params)

  reply_open : (ret : Option Ty) → ReturnsFlat (depths_of d.structs) ret → All (IsOpenMember d) (reply_members_of (record func { ret = ret }))
  reply_open None flat = all_open d params_from goes (λ from direction. refl) (λ from direction p ps. refl) 1 _ func.params (omega (arith, few_params)) flat_of.params
  reply_open (Some t) flat =
      All-cons (IsOpenMember d) (required 0 t []) _ (required_open d 0 t [] (lit< tt) flat)
      (all_open d params_from goes (λ from direction. refl) (λ from direction p ps. refl) 1 _ func.params (omega (arith, few_params)) flat_of.params)

  pub reply_are : AreMembers d (reply_members_of func)
  reply_are = from_open d (reply_members_of func) (reply_at_fit schema interface k func found) (reply_open func.ret flat_of.ret)
