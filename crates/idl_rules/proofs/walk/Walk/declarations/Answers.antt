use Rattle.idl_scene.specs.Items.{declared_item}
use Rattle.idl_rules.specs.JudgeSteps.{judged_of}
use Rattle.idl_rules.proofs.WalkLaws.{judged_more}
use Rattle.idl_rules.proofs.walk.Walk.declarations.Goals as goal

pub loop-decl-preserved : goal.loop-decl-preserved
loop-decl-preserved c =
    judged_more (declared_item c.args.file c.args.text.now c.args.home.now) (judged_of c.args.self.now) (judged_of c.loop-decl.self) (judged_of c.declaration.new.self) c.args.decls.now c.loop-decl.decl-index c.decl-item.result c.loop-decl-test.true c.decl-item.is c.loop-decl.invariant c.in_ok-declaration.ensures
