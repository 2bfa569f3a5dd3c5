use Rattle.idl_rules.proofs.MemberLaws.{tags_next, members_next}
use Rattle.idl_rules.proofs.members.judge_members.Goals as goal

pub loop-member-preserved : goal.loop-member-preserved
loop-member-preserved c =
    let s = c.args.scene.now in
    let members = c.args.members.now in
    let i = c.loop-member.member-index in
    let m = c.member-item.result in
    let invariant = c.loop-member.invariant in
    record {
      tags = rw c.in_ok-judge_member.ensures.tags (tags_next s c.loop-member.tags.keys members i m c.loop-member-test.true c.member-item.is invariant.tags);
      found = members_next s c.loop-member.tags.keys members i m c.loop-member-test.true c.member-item.is invariant.tags invariant.found c.in_ok-judge_member.ensures.found;
    }
