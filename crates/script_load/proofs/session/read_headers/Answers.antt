use Rattle.std.proofs.Common.{◌∙◌, sym, ap, map, subst, inl, inr}
use Rattle.std.specs.List.{All}
use Rattle.script_lines.specs.Views.{script_of, rule_line}
use Rattle.script_lines.specs.declared.rule.RuleLine.{RuleLine}
use Rattle.script_rules.specs.Rules.{IsJudged}
use Rattle.script_load.specs.LineFaults.{IsFirstFault}
use Rattle.script_load.specs.LineSteps.{HaveRuleFault}
use Rattle.script_load.specs.Sides.{funcs_at}
use Rattle.script_load.proofs.Mapped.{all_mapped}
use Rattle.script_load.proofs.Named.{on_error, on_fault}
use Rattle.script_load.proofs.Read.{bad_rules, no_interface}
use Rattle.script_load.proofs.SchemaSides.{schema_has}
use Rattle.script_load.proofs.session.read_headers.Goals as goal
use Rattle.script_load.proofs.session.read_headers.Goals.{in_default-via-in-Some+in_default, in_default-via-in_default}

pub rules_of-rules-requires-clause-judged : goal.rules_of-rules-requires-clause-judged
rules_of-rules-requires-clause-judged c =
    let s = script_of c.args.script.now in
    subst (All (λ (line : RuleLine). IsJudged (rule_line line).rule)) (sym c.deref.ensures.value)
    (all_mapped rule_line (λ line. IsJudged line.rule) c.args.script.now.rules.items (c.lines_are_judged.ensures.rules c.requires.file.text s c.requires.file.says))

pub returns-in_err-rules-in-Some-Some-clause-fault : goal.returns-in_err-rules-in-Some-Some-clause-fault
returns-in_err-rules-in-Some-Some-clause-fault c =
    let s = script_of c.args.script.now in
    let client = c.args.sides.now.client in
    let server = c.args.sides.now.server in
    let funcs_are = c.funcs_at-funcs.ensures.funcs ∙ ap (funcs_at server) c.interface_number-server.ensures.number in
    let lines_are = ap (map rule_line) c.deref.ensures.value in
    on_error (IsFirstFault client server s) c.from_residual.result c.in_err-rules-in-Some-Some.field-0.0 c.from_residual.ensures
    (on_fault (HaveRuleFault server c.funcs_at-funcs.result.now (map rule_line c.deref.result.now)) (IsFirstFault client server s)
    (λ fault have. bad_rules c.one_value.ensures client server (schema_has client c.are_schemas.ensures.client) (schema_has server c.are_schemas.ensures.server) s c.requires.file
    c.funcs_at-funcs.result.now (map rule_line c.deref.result.now) funcs_are lines_are fault
    (c.in-Some-Some.client_interface, sym c.interface_number-client.ensures.number ∙ c.in-Some-Some.is-0)
    (c.in-Some-Some.server_interface, sym c.interface_number-server.ensures.number ∙ c.in-Some-Some.is-1) have)
    c.in_err-rules-in-Some-Some.field-0.0 c.in_err-rules-in-Some-Some.ensures.fault)

pub returns-in_default-clause-fault : goal.returns-in_default-clause-fault
returns-in_default-clause-fault c =
    let s = script_of c.args.script.now in
    let client = c.args.sides.now.client in
    let server = c.args.sides.now.server in
    let funcs_are = c.funcs_at-funcs.ensures.funcs ∙ ap (funcs_at server) c.interface_number-server.ensures.number in
    let lines_are = ap (map rule_line) c.deref.ensures.value in
    no_interface c.one_value.ensures client server (schema_has client c.are_schemas.ensures.client) (schema_has server c.are_schemas.ensures.server) s c.requires.file
    c.funcs_at-funcs.result.now (map rule_line c.deref.result.now) funcs_are lines_are
    (elim c.in_default.branch [
      | in_default-via-in-Some+in_default w ↦ inr (sym c.interface_number-server.ensures.number ∙ w.in_default.is-1)
      | in_default-via-in_default w ↦ inl (sym c.interface_number-client.ensures.number ∙ w.in_default.is-0)
    ])
    c.rules_of-rules.result c.rules_of-rules.ensures.means c.rules_of-rules.ensures.fault c.without_interface.result c.without_interface.ensures
