use Rattle.idl_scene.proofs.FaultLaws.{noted_nothing, noted_both}
use Rattle.idl_rules.proofs.declared_types.judge_layer.Goals as goal

pub returns : goal.returns
returns c =
    noted_both c.note_unknown.ensures (noted_both c.note_float.ensures (noted_both c.note_bad_key.ensures (noted_both c.note_deep.ensures (noted_both c.note_unsigned_bytes.ensures (noted_nothing _)))))
