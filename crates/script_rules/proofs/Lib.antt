pub mod FunctionLaws
pub mod Names
pub mod OneRule
pub mod ParamLaws
pub mod RuleLaws
pub mod SameTypes
pub mod SchemaFuncs
pub mod ScriptRules
