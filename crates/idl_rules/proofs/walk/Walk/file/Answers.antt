use Rattle.std.proofs.Common.{map}
use Rattle.idl_scene.specs.Items.{entry_items, name_of}
use Rattle.idl_rules.specs.JudgeSteps.{judged_of}
use Rattle.idl_rules.proofs.WalkLaws.{judged_flat}
use Rattle.idl_rules.proofs.walk.Walk.file.Goals as goal

pub loop-entry-preserved : goal.loop-entry-preserved
loop-entry-preserved c =
    judged_flat (entry_items c.args.file c.text-text.result.now (map name_of c.args.earlier.now)) (judged_of c.args.self.now) (judged_of c.loop-entry.self) (judged_of c.entry.new.self) c.entries-entry-items.result.now c.loop-entry.entry-index c.entry-item.result c.loop-entry-test.true c.entry-item.is c.loop-entry.invariant c.in_ok-entry.ensures
