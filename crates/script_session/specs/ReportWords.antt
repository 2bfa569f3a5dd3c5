-- The words that reports have for what was known of a node and for why a call was refused (docs/SCRIPTS.md, "Reports").
use Rattle.std.specs.Prelude.{ℕ, List, codes}
use Rattle.script_session.specs.declared.report.Refusal.{Refusal}
use Rattle.script_session.specs.declared.report.Refusal.TheVariants as refusal
use Rattle.script_session.specs.declared.report.Why.{Why}
use Rattle.script_session.specs.declared.report.Why.TheVariants.{Live}

-- what was known of the node
abbrev pub why_text : Why → List ℕ
why_text Live = codes "live"

abbrev pub refusal_text : Refusal → List ℕ
refusal_text refusal.Full = codes "full"
refusal_text (refusal.Closed word) = codes "closed"
