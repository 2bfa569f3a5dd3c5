-- Tables of the numbers of calls.
use Rattle.std.proofs.Common.{arith, ◌≤◌, ◌<◌, ◌+◌, ◌-◌, length, take, drop, get_or, drop_of_length-le, ◌≡◌, ℕ, ◌==◌, nat_eq, Bool, true, false, cond, if◌then◌else◌, List, [], ◌∷◌, ◌++◌, Option, Some, unwrap_or, refl, sym, ap, ◌∙◌}
use Rattle.std.proofs.lemmas.List.{take-append-drop, drop_more, append_assoc}
use Rattle.std.specs.Map.{lookup}
use Rattle.script_session.specs.declared.report.CallId.{CallId}
use Rattle.script_session.specs.declared.report.Row.{Row}
use Rattle.run_report.specs.ReportText.{is_id, call_with}
use Rattle.run_report.specs.CallNumbers.{number_in, HasCalls}

-- the number of an id, after one was put
number_after : (id : CallId) (rows : List Row) (call : ℕ) (old : List (ℕ × ℕ)) (b : Bool) → number_in old id ≡ call_with rows id
    → unwrap_or (cond b (Some call) (lookup (λ key. id.0 == key) old)) 0 ≡ (if b then call else call_with rows id)
number_after id rows call old true held = refl
number_after id rows call old false held = held

-- a row whose id and call were put
pub row_put : (rows : List Row) (row : Row) (own : CallId) (number : ℕ) (old new : List (ℕ × ℕ)) → row.id ≡ Some own → number ≡ own.0
    → ((q : ℕ) → lookup (nat_eq q) new ≡ cond (nat_eq number q) (Some row.call) (lookup (nat_eq q) old))
    → HasCalls rows old → HasCalls (row ∷ rows) new
row_put rows row own number old new has_id is put held id =
    ap (λ o. unwrap_or o 0) (put id.0) ∙ number_after id rows row.call old (nat_eq number id.0) (held id)
    ∙ ap (λ (n : ℕ). if nat_eq n id.0 then row.call else call_with rows id) is
    ∙ ap (λ (o : Option CallId). if is_id id o then row.call else call_with rows id) (sym has_id)

-- no row is left
pub all_done : (rows done : List Row) (table : List (ℕ × ℕ)) → rows ≡ [] ++ done → HasCalls done table → HasCalls rows table
all_done rows done table same held id = held id ∙ ap (λ (all : List Row). call_with all id) (sym same)

-- the last row is apart from those before it
last_apart : (rest : List Row) (row : Row) → 1 ≤ length rest → row ≡ get_or rest (length rest - 1) row → rest ≡ take (length rest - 1) rest ++ row ∷ []
last_apart rest row some last =
    let at : ℕ = length rest - 1 in
    let below : at < length rest = omega arith in
    let none : drop (at + 1) rest ≡ [] = drop_of_length-le rest (omega arith) in
    sym (take-append-drop at rest) ∙ ap (λ (end : List Row). take at rest ++ end) (drop_more rest at row below ∙ ap (λ (first : Row). first ∷ drop (at + 1) rest) (sym last) ∙ ap (λ (end : List Row). row ∷ end) none)

-- the last row of those that are left goes to those that are done
pub last_done : (rows rest done : List Row) (row : Row) → 1 ≤ length rest → row ≡ get_or rest (length rest - 1) row → rows ≡ rest ++ done
    → rows ≡ take (length rest - 1) rest ++ row ∷ done
last_done rows rest done row some last same =
    same ∙ ap (λ (all : List Row). all ++ done) (last_apart rest row some last) ∙ append_assoc (take (length rest - 1) rest) (row ∷ []) done
