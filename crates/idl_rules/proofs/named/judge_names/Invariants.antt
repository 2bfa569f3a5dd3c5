use Rattle.std.proofs.Common.{◌≡◌, map, take, []}
use Rattle.least_fault.specs.Conditions.{found_after}
use Rattle.least_fault.specs.Least.{Notes}
use Rattle.idl_scene.specs.Faults.{is_below}
use Rattle.idl_scene.specs.Items.{word}
use Rattle.idl_scene.specs.Known.{each_once}
use Rattle.idl_rules.specs.JudgeSteps.{name_faults}
use Rattle.idl_rules.specs.Parts.{name_list}
use Rattle.idl_rules.specs.SeenSteps.{HasSame}
use Rattle.idl_rules.proofs.named.judge_names.Given as goal

abbrev pub invariant-loop-count : goal.invariant-loop-count
invariant-loop-count g l = record {
  words : l.seen ≡ each_once (map (λ p. word l.scene.text (g.T.Named.name_of p)) (take l.count l.parts));
  seen : HasSame l.seen (map (λ p. word l.scene.text (g.T.Named.name_of p)) (take l.count l.parts));
  found : Notes is_below l.initial.least l.least (found_after (name_faults l.scene (name_list l.declares l.most [])) [] (map g.T.Named.name_of (take l.count l.parts)));
}
