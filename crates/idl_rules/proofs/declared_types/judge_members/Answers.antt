use Rattle.idl_rules.specs.Parts.{member_types}
use Rattle.idl_rules.proofs.LoopLaws.{types_more}
use Rattle.idl_rules.proofs.declared_types.judge_members.Goals as goal

pub loop-member-preserved : goal.loop-member-preserved
loop-member-preserved c =
    types_more c.args.members.now c.loop-member.member-index c.member-item.result c.loop-member-test.true c.member-item.is c.args.scene.now member_types c.loop-member.invariant c.judge_type.ensures
