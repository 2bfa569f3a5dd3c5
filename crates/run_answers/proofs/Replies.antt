-- What the servant of a judged session replies to arguments that fit is values of the function's reply, with bytes, or a code other
-- than 0, or nothing.
use Rattle.std.proofs.Common.{◌≡◌, ℕ, zero, suc, ℤ, Bool, true, false, cond, List, [], ◌∷◌, length, replicate, Option, Some, None, refl, sym, ◌∙◌, subst, pos}
use Rattle.std.specs.Prelude.{slice_get, slice_index_or, ◌+ℤ◌}
use Rattle.tars_model.specs.Members.{arguments_of, reply_members_of}
use Rattle.tars_model.specs.Schemas.{IsSchema}
use Rattle.tars_model.specs.Values.{fits, fit_members, default_of}
use Rattle.tars_model.specs.declared.func_desc.FuncDesc.{FuncDesc}
use Rattle.tars_model.specs.declared.func_desc.Param.{Param}
use Rattle.tars_model.specs.declared.ty.Ty.{Ty}
use Rattle.tars_model.specs.declared.value.Value.{Value, Num}
use Rattle.tars_versions.proofs.Induction.{AllOf}
use Rattle.servant_core.specs.Rules.{IsRuleOf, IsOptionalRuleOf, AreRulesOf, UNKNOWN, out_defaults, returning, returning_default, returning_sum, argument, summand, reply_by, reply_of}
use Rattle.servant_core.specs.Servants.{Handled, IsReplyUnder}
use Rattle.servant_core.specs.declared.replies.Reply.{Reply}
use Rattle.servant_core.specs.declared.replies.Reply.TheVariants.{Values, Code}
use Rattle.servant_core.specs.declared.rules.Rule.{Rule}
use Rattle.servant_core.specs.declared.rules.Rule.TheVariants as rule
use Rattle.servant_core.proofs.Suited.{suits}
use Rattle.script_session.specs.Judged.{IsJudged, IsRule}
use Rattle.script_session.specs.Judged as judged_of
use Rattle.script_session.specs.Sessions.{server_funcs, rule_table, rules_of, replies}
use Rattle.script_session.specs.declared.session.FuncRule.{FuncRule}
use Rattle.script_session.specs.declared.session.Session.{Session}
use Rattle.run_course.proofs.Lists.{some_same}
use Rattle.run_answers.proofs.ListLaws.{of_all, set_keeps}
use Rattle.run_answers.proofs.ValueBytes.{HasBytes, num_has}
use Rattle.run_answers.proofs.SchemaBytes.{schema_bytes, default_has}

-- ---- rules

-- what is judged of the rule of a function, where it has one
record IsJudgedRule (s : Session) (k : ℕ) (rule : Rule) : Type 0 where
  fits : (func : FuncDesc) → slice_get (server_funcs s) k ≡ Some func → IsRuleOf s.server func rule
  bytes : judged_of.HasBytes rule

abbrev IsJudgedAt : Session → ℕ → Option Rule → Type 0
IsJudgedAt s k None = Unit {0}
IsJudgedAt s k (Some rule) = IsJudgedRule s k rule

none_at : (count k : ℕ) → slice_index_or (replicate count (let a : Option Rule = None in a)) k None ≡ None
none_at zero k = refl
none_at (suc count) zero = refl
none_at (suc count) (suc k) = none_at count k

table_judged : (s : Session) (count : ℕ) (rules : List FuncRule) → AllOf (IsRule s) rules → (k : ℕ) → IsJudgedAt s k (slice_index_or (rule_table count rules) k None)
table_judged s count [] all k = subst (IsJudgedAt s k) (sym (none_at count k)) tt
table_judged s count (r ∷ rules) all k =
    set_keeps (IsJudgedAt s) None (rule_table count rules) r.func (Some r.rule)
    (record {
      fits = λ func found. subst (λ (f : FuncDesc). IsRuleOf s.server f r.rule) (some_same all.0.func func (sym all.0.func_is ∙ found)) all.0.fits;
      bytes = all.0.bytes;
    })
    (table_judged s count rules all.1) k

module _ (s : Session) (schema : IsSchema s.server) (judged : IsJudged s) where
  rules_judged : (k : ℕ) → IsJudgedAt s k (slice_index_or (rules_of s) k None)
  rules_judged = table_judged s (length (server_funcs s)) s.rules (of_all (IsRule s) s.rules judged.rules)

  rules_fit : AreRulesOf s.server (server_funcs s) (rules_of s)
  rules_fit k func found = by_rule (slice_index_or (rules_of s) k None) (rules_judged k)
    where
      by_rule : (rule : Option Rule) → IsJudgedAt s k rule → IsOptionalRuleOf s.server func rule
      by_rule None own = tt
      by_rule (Some rule) own = own.fits func found

  -- ---- bytes

  abbrev ReplyHas : Reply → Type 0
  ReplyHas (Values values) = AllOf HasBytes values
  ReplyHas _ = Unit {0}

  outs_have : (params : List Param) → AllOf HasBytes (out_defaults s.server params)
  outs_have [] = tt
  outs_have (p ∷ params) = by_test p.out (outs_have params)
    where
      by_test : (b : Bool) → AllOf HasBytes (out_defaults s.server params) → AllOf HasBytes (cond b (default_of s.server p.ty ∷ out_defaults s.server params) (out_defaults s.server params))
      by_test true later = (default_has s.server (schema_bytes schema) p.ty, later)
      by_test false later = later

  argument_has : (args : List Value) (place : ℕ) → AllOf HasBytes args → HasBytes (argument args place)
  argument_has [] place all = num_has (pos 0)
  argument_has (v ∷ args) zero all = all.0
  argument_has (v ∷ args) (suc place) all = argument_has args place all.1

  default_reply : (func : FuncDesc) (ret : Option Ty) → ReplyHas (returning_default s.server func ret)
  default_reply func None = outs_have func.params
  default_reply func (Some t) = (default_has s.server (schema_bytes schema) t, outs_have func.params)

  sum_reply : (func : FuncDesc) (ret : Option Ty) (sum : ℤ) → ReplyHas (returning_sum s.server func ret sum)
  sum_reply func None sum = tt
  sum_reply func (Some t) sum = by_test (fits s.server t (Num sum))
    where
      by_test : (b : Bool) → ReplyHas (cond b (returning s.server func (Num sum)) (Code UNKNOWN))
      by_test true = (num_has sum, outs_have func.params)
      by_test false = tt

  rule_reply : (func : FuncDesc) (k : ℕ) (rule : Option Rule) (args : List Value) → IsJudgedAt s k rule → AllOf HasBytes args → ReplyHas (reply_by s.server func rule args)
  rule_reply func k None args own all = default_reply func func.ret
  rule_reply func k (Some (rule.Value v)) args own all = (own.bytes, outs_have func.params)
  rule_reply func k (Some (rule.Echo place)) args own all = (argument_has args place all, outs_have func.params)
  rule_reply func k (Some (rule.Add first second)) args own all = sum_reply func func.ret (summand args first +ℤ summand args second)
  rule_reply func k (Some (rule.Code n)) args own all = tt
  rule_reply func k (Some rule.Silent) args own all = tt

  func_reply : (k : ℕ) (func : Option FuncDesc) (args : List Value) → AllOf HasBytes args → ReplyHas (reply_of s.server func (slice_index_or (rules_of s) k None) args)
  func_reply k None args all = tt
  func_reply k (Some func) args all = rule_reply func k (slice_index_or (rules_of s) k None) args (rules_judged k) all

  pub reply_bytes : (call : Handled) → AllOf HasBytes call.args → (values : List Value) → replies s call ≡ Values values → AllOf HasBytes values
  reply_bytes call all values is = subst ReplyHas is (func_reply call.func (slice_get (server_funcs s) call.func) call.args all)

  pub reply_fits : (call : Handled) (func : FuncDesc) → slice_get (server_funcs s) call.func ≡ Some func → fit_members s.server (arguments_of func) call.args ≡ true → IsReplyUnder s.server (reply_members_of func) (replies s call)
  reply_fits call func found fit = suits schema s.server_interface (rules_of s) rules_fit [] call func found fit
