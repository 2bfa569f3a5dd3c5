-- For the proofs: what a table of the numbers of calls, by their ids, says of an id.
use Rattle.std.specs.Prelude.{◌≡◌, ℕ, ◌==◌, List, unwrap_or}
use Rattle.std.specs.Map.{lookup}
use Rattle.script_session.specs.declared.report.CallId.{CallId}
use Rattle.script_session.specs.declared.report.Row.{Row}
use Rattle.run_report.specs.ReportText.{call_with}

-- the number of an id, and 0 where it has none
abbrev pub number_in : List (ℕ × ℕ) → CallId → ℕ
number_in table id = unwrap_or (lookup (λ key. id.0 == key) table) 0

-- the table has the calls of these rows
abbrev pub HasCalls : List Row → List (ℕ × ℕ) → Type 0
HasCalls rows table = (id : CallId) → number_in table id ≡ call_with rows id
