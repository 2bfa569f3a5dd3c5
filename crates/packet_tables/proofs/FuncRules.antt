-- The functions of an interface by their numbers.
use Rattle.std.proofs.Common.{◌≡◌, ℕ, Option, Some, None, List, sym, subst, ◌∙◌}
use Rattle.std.specs.Borrow.{Bor}
use Rattle.std.specs.Prelude.{slice_get, option_copied, IfSome}
use Rattle.std.proofs.lemmas.Option.{same_Some, slice_get_within}
use Rattle.packet_tables.specs.Servants.{SuitsAt, IsRuleFor, IsTableOver}
use Rattle.script_rules.specs.Functions.{AreParams}
use Rattle.servant_core.specs.Functions.{functions_of}
use Rattle.servant_core.specs.Rules.{IsRuleOf}
use Rattle.servant_core.specs.Servants.{Always, IsSuited, Meaning}
use Rattle.servant_core.specs.Tables.{Table, functions}
use Rattle.servant_core.specs.declared.rules.Rule.{Rule}
use Rattle.tars_model.specs.Declarations.{Declared}
use Rattle.tars_model.specs.declared.func_desc.FuncDesc.{FuncDesc}

-- what holds of each function holds of the one that is found
pub few_params : (funcs : List FuncDesc) (k : ℕ) (found : Option (Bor FuncDesc)) → option_copied found ≡ slice_get funcs k
    → ((func : FuncDesc) → slice_get funcs k ≡ Some func → AreParams func.params) → IfSome found (λ func. AreParams func.now.params)
few_params funcs k None is all = tt
few_params funcs k (Some func) is all = all func.now (sym is)

-- a rule of a function is one for its number
pub rule_for : (d : Declared) (interface k : ℕ) (func : FuncDesc) (rule : Rule) → slice_get (functions_of d interface) k ≡ Some func
    → IsRuleOf d func rule → IsRuleFor d interface k rule
rule_for d interface k func rule found fits =
    record {
      there = slice_get_within (functions_of d interface) k func found;
      fits = λ other is. subst (λ f. IsRuleOf d f rule) (same_Some func other (sym found ∙ is)) fits;
    }

-- a table whose replies fit its interface is one for that interface
pub suits_over : (d : Declared) (interface : ℕ) (table : Table) (meaning : Meaning) → IsTableOver d interface table
    → Always (IsSuited table.schema (functions table)) meaning → SuitsAt d interface meaning
suits_over d interface table meaning (schema, number) always =
    subst (λ n. SuitsAt d n meaning) number (subst (λ s. SuitsAt s table.interface meaning) schema always)

-- what suits an interface does so under another name
pub suits_as : (d : Declared) (interface : ℕ) (one other : Meaning) → other ≡ one → SuitsAt d interface one → SuitsAt d interface other
suits_as d interface one other same = subst (SuitsAt d interface) (sym same)
