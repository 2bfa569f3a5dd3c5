use Rattle.std.proofs.Common.{rules, map}
use Rattle.std.proofs.lemmas.List.Elements.{All-push}
use Rattle.std.proofs.lemmas.Option.{slice_get-get_or}
use Rattle.script_lines.specs.Views.{rule_line}
use Rattle.script_load.specs.LineSteps.{FitsRule}
use Rattle.script_load.proofs.Taken.{at_mapped, next_rule}
use Rattle.script_load.proofs.rules.rules_of.Goals as goal

pub loop-line-preserved : goal.loop-line-preserved
loop-line-preserved c =
    rw c.in_ok-push.ensures.ok (record {
      read = next_rule c.args.schema.now c.args.funcs.now (map rule_line c.args.lines.now) c.loop-line.line-index c.loop-line.rules _ c.in_ok-rule.rule
          (at_mapped rule_line c.args.lines.now c.loop-line.line-index _ (slice_get-get_or c.args.lines.now c.loop-line.line-index _ c.loop-line-test.true))
          c.loop-line.invariant.read c.in_ok-rule.ensures.means;
      fits = All-push (FitsRule c.args.schema.now c.args.funcs.now) c.loop-line.rules c.in_ok-rule.rule c.loop-line.invariant.fits c.in_ok-rule.ensures.fits;
    })
