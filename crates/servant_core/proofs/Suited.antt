-- What a table of rules replies fits the calls of its interface.
use Rattle.std.proofs.Common.{◌≡◌, ◌+◌, ℕ, zero, suc, ℤ, Bool, true, false, cond, List, [], ◌∷◌, ◌++◌, length, slice_index_or, Option, Some, None, refl, sym, subst}
use Rattle.std.specs.Prelude.{slice_get, ◌+ℤ◌}
use Rattle.std.specs.List.{All}
use Rattle.std.proofs.lemmas.Bool.{and_from, and_parts}
use Rattle.std.proofs.lemmas.List.Elements.{All-head, All-tail}
use Rattle.tars_model.specs.Declarations.{Declared}
use Rattle.tars_model.specs.Members.{required, params_from, arguments_of, returned}
use Rattle.tars_model.specs.Schemas.{IsSchema}
use Rattle.tars_model.specs.Types.{IsType}
use Rattle.tars_model.specs.Values.{fits, fit_members, default_of}
use Rattle.tars_model.specs.declared.func_desc.FuncDesc.{FuncDesc}
use Rattle.tars_model.specs.declared.func_desc.Param.{Param}
use Rattle.tars_model.specs.declared.member.Member.{Member}
use Rattle.tars_model.specs.declared.ty.Ty.{Ty}
use Rattle.tars_model.specs.declared.value.Value.{Value, Num}
use Rattle.tars_decode.proofs.CallerLemmas.{type_default}
use Rattle.servant_core.specs.Functions.{functions_of}
use Rattle.servant_core.specs.Rules.{IsOptionalRuleOf, AreRulesOf, Returns, TakesAt, out_defaults, returning_default, returning_sum, argument, summand, reply_by, reply_of, table_reply}
use Rattle.servant_core.specs.Servants.{Always, IsReplyUnder, IsSuited}
use Rattle.servant_core.specs.Tables.{Table, IsTable, functions}
use Rattle.servant_core.specs.declared.replies.Reply.TheVariants.{Values, Code}
use Rattle.servant_core.specs.declared.rules.Rule.{Rule}
use Rattle.servant_core.specs.declared.rules.Rule.TheVariants as rule
use Rattle.servant_core.proofs.Functions.{IsFuncOver, ReturnsType}
use Rattle.servant_core.proofs.FuncsAt.{func_over}

-- ---- what comes back

-- the defaults of the parameters that come back fit their members
module _ {D : Type 0} (d : Declared) (members_from : ℕ → D → List Param → List Member) (direction : D)
    (none_left : (from : ℕ) → members_from from direction [] ≡ [])
    (next : (from : ℕ) (p : Param) (ps : List Param) → members_from from direction (p ∷ ps)
    ≡ cond p.out (required from p.ty p.name ∷ members_from (from + 1) direction ps) (members_from (from + 1) direction ps))
    (fits_default : (t : Ty) → IsType (length d.enums) (length d.structs) t → fits d t (default_of d t) ≡ true)
  where
    outs_fit : (from : ℕ) (ps : List Param) → All (λ (p : Param). IsType (length d.enums) (length d.structs) p.ty) ps
        → fit_members d (members_from from direction ps) (out_defaults d ps) ≡ true
    outs_fit from [] all = rw (none_left from) refl
    outs_fit from (p ∷ ps) all =
        rw (next from p ps) (by_test p.out (outs_fit (from + 1) ps (All-tail (λ (p : Param). IsType (length d.enums) (length d.structs) p.ty) p ps all)))
      where
        by_test : (b : Bool) → fit_members d (members_from (from + 1) direction ps) (out_defaults d ps) ≡ true
            → fit_members d (cond b (required from p.ty p.name ∷ members_from (from + 1) direction ps) (members_from (from + 1) direction ps))
            (cond b (default_of d p.ty ∷ out_defaults d ps) (out_defaults d ps)) ≡ true
        by_test true later = and_from _ _ (fits_default p.ty (All-head (λ (p : Param). IsType (length d.enums) (length d.structs) p.ty) p ps all)) later
        by_test false later = later

-- ---- arguments

argument_fits : (d : Declared) (members : List Member) (args : List Value) (place : ℕ) (m : Member)
    → fit_members d members args ≡ true → slice_get members place ≡ Some m → fits d m.ty (argument args place) ≡ true
argument_fits d [] args place m fit found = absurd cc
argument_fits d (n ∷ members) [] place m fit found = absurd cc
argument_fits d (n ∷ members) (v ∷ args) zero m fit found =
    let parts = and_parts (fits d n.ty v) _ fit in rw (sym (some_is found)) parts.0
  where
    some_is : {A : Type 0} {x y : A} → Some x ≡ Some y → x ≡ y
    some_is e = cc
argument_fits d (n ∷ members) (v ∷ args) (suc place) m fit found =
    let parts = and_parts (fits d n.ty v) _ fit in argument_fits d members args place m parts.1 found

-- ---- rules

module _ {d : Declared} (schema : IsSchema d) (func : FuncDesc) (over : IsFuncOver (length d.enums) (length d.structs) func)
    (outs : List Member) (back : fit_members d outs (out_defaults d func.params) ≡ true) where
  one_fits : (t : Ty) (v : Value) → fits d t v ≡ true → fit_members d (returned (Some t) ++ outs) (v ∷ out_defaults d func.params) ≡ true
  one_fits t v fit = and_from _ _ fit back

  default_fits : (ret : Option Ty) → ReturnsType (length d.enums) (length d.structs) ret → IsReplyUnder d (returned ret ++ outs) (returning_default d func ret)
  default_fits None type = back
  default_fits (Some t) type = one_fits t (default_of d t) (type_default schema type)

  value_fits : (ret : Option Ty) (v : Value) → Returns ret (λ t. fits d t v ≡ true) → fit_members d (returned ret ++ outs) (v ∷ out_defaults d func.params) ≡ true
  value_fits None v fit = absurd fit
  value_fits (Some t) v fit = one_fits t v fit

  sum_fits : (ret : Option Ty) (sum : ℤ) → IsReplyUnder d (returned ret ++ outs) (returning_sum d func ret sum)
  sum_fits None sum = λ e. cc
  sum_fits (Some t) sum = by_test (fits d t (Num sum)) refl
    where
      by_test : (b : Bool) → fits d t (Num sum) ≡ b
          → IsReplyUnder d (returned (Some t) ++ outs) (cond b (Values (Num sum ∷ out_defaults d func.params)) (Code (Rattle.servant_core.specs.Rules.UNKNOWN)))
      by_test true fit = one_fits t (Num sum) fit
      by_test false fit = λ e. cc

  echo_fits : (ret : Option Ty) (args : List Value) (place : ℕ) → fit_members d (arguments_of func) args ≡ true
      → Returns ret (λ t. TakesAt func place (λ taken. taken ≡ t)) → fit_members d (returned ret ++ outs) (argument args place ∷ out_defaults d func.params) ≡ true
  echo_fits None args place fit taken = absurd taken
  echo_fits (Some t) args place fit (m, found, is) =
      one_fits t (argument args place) (rw (sym is) (argument_fits d (arguments_of func) args place m fit found))

  rule_fits : (rule : Option Rule) (args : List Value) → fit_members d (arguments_of func) args ≡ true → IsOptionalRuleOf d func rule
      → IsReplyUnder d (returned func.ret ++ outs) (reply_by d func rule args)
  rule_fits None args fit rules = default_fits func.ret over.ret
  rule_fits (Some (rule.Value v)) args fit rules = value_fits func.ret v rules
  rule_fits (Some (rule.Echo place)) args fit rules = echo_fits func.ret args place fit rules
  rule_fits (Some (rule.Add first second)) args fit rules = sum_fits func.ret (summand args first +ℤ summand args second)
  rule_fits (Some (rule.Code n)) args fit rules = rules
  rule_fits (Some rule.Silent) args fit rules = record {}

pub suits : {d : Declared} → IsSchema d → (interface : ℕ) (rules : List (Option Rule)) → AreRulesOf d (functions_of d interface) rules
    → Always (IsSuited d (functions_of d interface)) (λ earlier last. table_reply d (functions_of d interface) rules last)
suits {d} schema interface rules all earlier last func found fit =
    let over = func_over schema interface last.func func found in
    rw found (rule_fits schema func over (params_from 1 _ func.params)
    (outs_fit d params_from _ (λ from. refl) (λ from p ps. refl) (λ t type. type_default schema type) 1 func.params over.params)
    (slice_index_or rules last.func None) last.args fit (all last.func func found))

pub table_suits : (inside table : Table) → inside ≡ table → IsTable inside
    → Always (IsSuited table.schema (functions table)) (λ earlier last. table_reply table.schema (functions table) table.rules last)
table_suits inside table is kept =
    subst (λ (t : Table). Always (IsSuited t.schema (functions t)) (λ earlier last. table_reply t.schema (functions t) t.rules last)) is
    (suits kept.schema inside.interface inside.rules kept.rules)
