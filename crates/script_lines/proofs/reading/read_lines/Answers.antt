use Rattle.std.proofs.Common.{◌≡◌, ◌-◌, Err, length, rules, sym, ap, ◌∙◌}
use Rattle.script_lines.specs.KeptSteps.{keep_line}
use Rattle.script_lines.proofs.LineSplits.{goes_on, stops, is_done, is_refused}
use Rattle.script_lines.proofs.reading.read_lines.Goals as goal

pub returns-in_err-keep_line : goal.returns-in_err-keep_line
returns-in_err-keep_line c =
    let at = length c.args.text.now - length c.loop-rest.rest.now in
    let refusal = c.in_err-keep_line.field-0.0 in
    let same : c.from_residual.result ≡ Err refusal = search rules in
    let line : c.split_line.result.0.now ≡ _ = c.split_line.ensures.line in
    rw same (is_refused at refusal c.keep_line.new.self _ _ c.in_err-keep_line.ensures
    (λ why is. stops (length c.args.text.now) c.loop-rest.draft why c.loop-rest.rest.now _ (search rules) c.loop-rest.invariant (ap (λ l. keep_line at l c.loop-rest.draft) (sym line) ∙ is)))

pub loop-rest-preserved : goal.loop-rest-preserved
loop-rest-preserved c =
    let at = length c.args.text.now - length c.loop-rest.rest.now in
    rw c.split_line.ensures.rest
    (goes_on (length c.args.text.now) c.loop-rest.draft c.keep_line.new.self c.loop-rest.rest.now _ (search rules) c.loop-rest.invariant
    (ap (λ l. keep_line at l c.loop-rest.draft) (sym c.split_line.ensures.line) ∙ c.in_ok-keep_line.ensures))

pub returns : goal.returns
returns c = is_done _ _ c.loop-rest.rest.now _ (search rules) c.loop-rest.invariant
