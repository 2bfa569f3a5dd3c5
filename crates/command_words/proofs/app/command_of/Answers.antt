use Rattle.std.proofs.Common.{rules, ◌∙◌, ap}
use Rattle.clap.specs.Words.{App, shape_of, rule_of}
use Rattle.command_words.proofs.ShapeLaws.{named_more}
use Rattle.command_words.proofs.app.command_of.Goals as goal

pub loop-word-preserved : goal.loop-word-preserved
loop-word-preserved c = (
  ap (λ (a : App). a.top) (c.in_ok-command.ensures.shape c.slot.ensures.local)
      ∙ named_more c.args.name.now c.args.words.now c.loop-word.word-index _ (shape_of c.loop-word.command) (rule_of c.slot.result) c.loop-word-test.true c.loop-word.invariant.0 c.slot.ensures.rule,
  search rules,
)
