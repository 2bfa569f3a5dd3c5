-- The servant that replies by a table of rules (docs/PROTOCOL.md, "Servants").
use Rattle.std.specs.Prelude.{◌≡◌, ◌<◌, ◌+◌, ◌-◌, ◌^◌, ℕ, min, Option, Some, None, List, length, replicate, slice_set, slice_get}
use Rattle.tars_model.specs.Declarations.{Declared}
use Rattle.tars_model.specs.Schemas.{IsSchema}
use Rattle.tars_model.specs.declared.func_desc.FuncDesc.{FuncDesc}
use Rattle.servant_core.specs.Functions.{functions_of}
use Rattle.servant_core.specs.Rules.{AreRulesOf, IsRuleOf}
use Rattle.servant_core.specs.declared.rules.Rule.{Rule}

-- the interface of a number in a schema, the rules by the functions' numbers, and how many calls it handled
pub record Table : Type 0 where
  pub schema : Declared
  pub interface : ℕ
  pub rules : List (Option Rule)
  pub handled : ℕ

-- the functions of its interface
abbrev pub functions : Table → List FuncDesc
functions table = functions_of table.schema table.interface

-- a rule or none for each function, and each fits
pub record IsTable (table : Table) : Type 0 where
  pub schema : IsSchema table.schema
  pub interface : table.interface < length table.schema.interfaces
  pub count : length table.rules ≡ length (functions table)
  pub rules : AreRulesOf table.schema (functions table) table.rules

-- a rule that fits the function of this number
abbrev pub IsRuleAt : Table → ℕ → Rule → Type 0
IsRuleAt table k rule = (func : FuncDesc) → slice_get (functions table) k ≡ Some func → IsRuleOf table.schema func rule

-- no function has a rule, and no call was handled
abbrev pub new_table : Declared → ℕ → Table
new_table schema interface =
    record { schema = schema; interface = interface; rules = replicate (length (functions_of schema interface)) None; handled = 0 }

-- one function has another rule
abbrev pub with_rule : Table → ℕ → Rule → Table
with_rule table func rule = record table { rules = slice_set table.rules func (Some rule) }

-- one more call was handled; the count stays at its last value
abbrev pub counted : Table → Table
counted table = record table { handled = min (table.handled + 1) (2 ^ 64 - 1) }
