use Rattle.std.proofs.Common.{ap}
use Rattle.script_lines.specs.Views.{rule_of}
use Rattle.script_rules.proofs.RuleLaws.{add_means, add_only, add_refused, add_none, add_fault}
use Rattle.script_rules.proofs.rules.read_rule.Goals as goal

pub returns-in_default-added-clause-only : goal.returns-in_default-added-clause-only
returns-in_default-added-clause-only c =
    add_none c.args.schema.now c.args.func.now (rule_of c.args.words.now) c.in-Add.left.now c.in-Add.right.now (ap rule_of c.in-Add.is) c.in_default-added.ensures.only

pub returns-in_default-added-clause-fault : goal.returns-in_default-added-clause-fault
returns-in_default-added-clause-fault c =
    add_fault c.args.schema.now c.args.func.now (rule_of c.args.words.now) c.in-Add.left.now c.in-Add.right.now (ap rule_of c.in-Add.is) c.in_default-added.ensures.only

pub returns-in-Some-added-clause-means : goal.returns-in-Some-added-clause-means
returns-in-Some-added-clause-means c =
    add_means c.args.schema.now c.args.func.now (rule_of c.args.words.now) c.in-Add.left.now c.in-Add.right.now (ap rule_of c.in-Add.is)
    c.in-Some-added.first c.in-Some-added.second c.in-Some-added.ensures.found

pub returns-in-Some-added-clause-only : goal.returns-in-Some-added-clause-only
returns-in-Some-added-clause-only c =
    add_only c.args.schema.now c.args.func.now (rule_of c.args.words.now) c.in-Add.left.now c.in-Add.right.now (ap rule_of c.in-Add.is)
    c.in-Some-added.first c.in-Some-added.second c.in-Some-added.ensures.only

pub returns-in-Some-added-clause-refused : goal.returns-in-Some-added-clause-refused
returns-in-Some-added-clause-refused c =
    add_refused c.args.schema.now c.args.func.now (rule_of c.args.words.now) c.in-Add.left.now c.in-Add.right.now (ap rule_of c.in-Add.is)
    c.in-Some-added.first c.in-Some-added.second c.in-Some-added.ensures.found
