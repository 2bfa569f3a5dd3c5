use Rattle.std.proofs.lemmas.Grind.{flat_map-append}
use Rattle.idl_scene.proofs.FaultLaws.{noted_nothing, noted_both}
use Rattle.idl_scene.proofs.TypeLaws.{types_basic, types_named, types_vector, types_map}
use Rattle.idl_rules.specs.JudgeSteps.{type_faults}
use Rattle.idl_rules.proofs.declared_types.+judge_type.Goals as goal

pub returns-in-Vector : goal.returns-in-Vector
returns-in-Vector t c =
    rw (types_vector _ _ _ c.in-Vector.is) (noted_both c.judge_layer.ensures (rw c.get.ensures at c.judge_type.ensures))

pub returns-in-Map : goal.returns-in-Map
returns-in-Map t c =
    let key = rw c.get-in-Map.ensures at c.judge_type-in-Map.ensures in
    let value = rw c.get-in-Map-2.ensures at c.judge_type-in-Map-2.ensures in
    rw (types_map _ _ _ _ c.in-Map.is, flat_map-append (type_faults c.args.scene.now)) (noted_both c.judge_layer.ensures (noted_both key value))

pub returns-in-Basic : goal.returns-in-Basic
returns-in-Basic t c = rw (types_basic _ _ _ c.in-Basic.is) (noted_both c.judge_layer.ensures (noted_nothing _))

pub returns-in-Named : goal.returns-in-Named
returns-in-Named t c = rw (types_named _ _ c.in-Named.is) (noted_both c.judge_layer.ensures (noted_nothing _))
