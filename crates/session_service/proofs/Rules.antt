-- The rules of a session, set one after another.
use Rattle.std.proofs.Common.{◌≡◌, ◌≤◌, ◌<◌, ◌-◌, List, ◌∷◌, ◌++◌, length, take, sym, ap, ◌∙◌, subst}
use Rattle.std.specs.Prelude.{slice_get, slice_index_or}
use Rattle.std.specs.List.{All}
use Rattle.tars_model.specs.Declarations.{Declared}
use Rattle.tars_model.specs.declared.func_desc.FuncDesc.{FuncDesc}
use Rattle.servant_core.specs.Functions.{functions_of}
use Rattle.servant_core.specs.Rules.{IsRuleOf}
use Rattle.servant_core.specs.Tables.{Table, IsRuleAt, functions, with_rule}
use Rattle.servant_core.specs.declared.rules.Rule.{Rule}
use Rattle.script_session.specs.Judged.{IsRule}
use Rattle.script_session.specs.Sessions.{server_funcs, rule_table}
use Rattle.script_session.specs.declared.session.FuncRule.{FuncRule}
use Rattle.script_session.specs.declared.session.Session.{Session}
use Rattle.run_course.proofs.Lists.{some_same}
use Rattle.std.proofs.lemmas.Option.{slice_get_within}
use Rattle.session_service.proofs.Lists.{all_middle, last_done}

-- a rule of a session stands for its function
pub rule_at : (s : Session) (rule : FuncRule) (table : Table) → table.schema ≡ s.server → table.interface ≡ s.server_interface → IsRule s rule
    → IsRuleAt table rule.func rule.rule
rule_at s rule table schema interface judged func found =
    subst (λ (d : Declared). IsRuleOf d func rule.rule) (sym schema)
    (subst (λ (f : FuncDesc). IsRuleOf s.server f rule.rule)
    (some_same judged.func func
    (sym judged.func_is ∙ sym (ap (λ (d : Declared). slice_get (functions_of d table.interface) rule.func) schema ∙ ap (λ i. slice_get (functions_of s.server i) rule.func) interface) ∙ found))
    judged.fits)

-- the servant so far
abbrev pub servant_with : Session → List FuncRule → Table
servant_with s done = record { schema = s.server; interface = s.server_interface; rules = rule_table (length (server_funcs s)) done; handled = 0 }

module _ (s : Session) (rest done : List FuncRule) (rule : FuncRule) (some : 1 ≤ length rest) (last : rule ≡ slice_index_or rest (length rest - 1) rule)
    (same : s.rules ≡ rest ++ done) where
  last_judged : All (IsRule s) s.rules → IsRule s rule
  last_judged judged =
      all_middle (IsRule s) (take (length rest - 1) rest) done rule (subst (λ rules. All (IsRule s) rules) (last_done s.rules rest done rule some last same) judged)

  pub last_func : (table : Table) → table ≡ servant_with s done → All (IsRule s) s.rules → rule.func < length (functions table)
  last_func table is judged =
      let r = last_judged judged in
      subst (λ (t : Table). rule.func < length (functions t)) (sym is) (slice_get_within (server_funcs s) rule.func r.func r.func_is)

  pub last_fits : (table : Table) (copy : Rule) → table ≡ servant_with s done → All (IsRule s) s.rules → copy ≡ rule.rule → IsRuleAt table rule.func copy
  last_fits table copy is judged copied =
      subst (λ (r : Rule). IsRuleAt table rule.func r) (sym copied)
      (rule_at s rule table (ap (λ (t : Table). t.schema) is) (ap (λ (t : Table). t.interface) is) (last_judged judged))

  pub one_set : (old new : Table) (copy : Rule) → old ≡ servant_with s done → copy ≡ rule.rule → new ≡ with_rule old rule.func copy → new ≡ servant_with s (rule ∷ done)
  one_set old new copy is copied set =
      set ∙ ap (λ (t : Table). with_rule t rule.func copy) is ∙ ap (λ (r : Rule). with_rule (servant_with s done) rule.func r) copied
