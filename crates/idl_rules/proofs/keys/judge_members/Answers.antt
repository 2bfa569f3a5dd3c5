use Rattle.std.proofs.Common.{get_or}
use Rattle.std.proofs.lemmas.List.{get_or_default}
use Rattle.idl_scene.specs.Known.{members_of}
use Rattle.idl_scene.specs.KnownSteps.{meant}
use Rattle.idl_rules.specs.Rules.{unknown_member}
use Rattle.idl_rules.proofs.LoopLaws.{found_more}
use Rattle.idl_rules.proofs.keys.judge_members.Goals as goal

pub loop-name-preserved : goal.loop-name-preserved
loop-name-preserved c =
    let names = c.args.members.now in
    let i = c.loop-name.name-index in
    let name = get_or names i (record { start = 0; end = 0 }) in
    found_more names i name c.loop-name-test.true (get_or_default names i _ name c.loop-name-test.true) (unknown_member c.args.scene.now (members_of (meant c.args.meaning))) c.loop-name.invariant c.judge_name.ensures
