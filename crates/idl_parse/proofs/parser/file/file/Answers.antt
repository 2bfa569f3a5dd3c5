use Rattle.std.proofs.Common.{◌≡◌, [], rules}
use Rattle.std.proofs.lemmas.Result.{err_from_is_err_and}
use Rattle.idl_parse.specs.ReadSteps.{file_at}
use Rattle.idl_parse.proofs.Parsing.Deriving.FileSteps.{entries_go_on, entries_fail, entries_end, entry_turn}
use Rattle.idl_parse.proofs.parser.file.file.Goals as goal

pub returns-in_err-entry : goal.returns-in_err-entry
returns-in_err-entry c =
    let more : c.rest.tokens ≡ [] → ⊥ = search rules in
    let p = err_from_is_err_and c.from_residual.result c.from_residual.ensures.1 in
    rw (p.1, p.2) (entries_fail c.in_err-entry.field-0.0 c.entry.new.tokens c.rest.entries c.rest.tokens (file_at 16 c.args.tokens.now) more c.in_err-entry.ensures c.rest.invariant)

pub rest-smaller : goal.rest-smaller
rest-smaller c = entry_turn c.rest.tokens c.in_ok-entry.entry c.entry.new.tokens c.in_ok-entry.ensures

pub rest-preserved : goal.rest-preserved
rest-preserved c =
    rw c.in_ok-push.ensures.ok (entries_go_on c.rest.entries c.rest.tokens c.in_ok-entry.entry c.entry.new.tokens (file_at 16 c.args.tokens.now) c.in_ok-entry.ensures c.rest.invariant)

pub returns : goal.returns
returns c =
    let none : c.rest.tokens ≡ [] = search rules in
    entries_end c.rest.entries c.rest.tokens (file_at 16 c.args.tokens.now) none c.rest.invariant
