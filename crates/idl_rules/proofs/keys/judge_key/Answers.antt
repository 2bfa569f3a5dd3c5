use Rattle.idl_scene.proofs.FaultLaws.{noted_both, noted_nothing}
use Rattle.idl_rules.proofs.keys.judge_key.Goals as goal

pub returns : goal.returns
returns c =
    noted_both (rw c.meaning_here-meaning.ensures at c.note_unknown_struct.ensures) (noted_both (rw (c.meaning_here-meaning.ensures, c.as_slice.ensures) at c.judge_members.ensures) (noted_nothing _))
