use Rattle.idl_scene.proofs.FaultLaws.{noted_both}
use Rattle.idl_rules.proofs.members.judge_member.Goals as goal

pub returns-clause-found : goal.returns-clause-found
returns-clause-found c = noted_both c.in_ok-judge_tag.ensures.found (noted_both c.in_ok-judge_default.ensures (rw c.array_at.ensures at c.note_left_out.ensures))
