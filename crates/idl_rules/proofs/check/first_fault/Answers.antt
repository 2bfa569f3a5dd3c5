use Rattle.std.proofs.Common.{map, take, length, ◌≤◌, sym, ap, ◌∙◌, arith}
use Rattle.std.proofs.lemmas.List.{drop_all}
use Rattle.idl_scene.specs.Items.{items_from, name_of}
use Rattle.idl_rules.specs.JudgeSteps.{judged_of, judged_after}
use Rattle.idl_rules.proofs.WalkLaws.{files_next, first_is}
use Rattle.idl_rules.proofs.check.first_fault.Goals as goal

pub loop-number-preserved : goal.loop-number-preserved
loop-number-preserved c =
    files_next c.args.files.now c.loop-number.number c.index-files-number.result (judged_of c.loop-number.walk) (judged_of c.file.new.self) c.loop-number-test.true c.index-files-number.is c.in_ok-file.ensures
    ∙ c.loop-number.invariant

pub returns : goal.returns
returns c =
    let files = c.args.files.now in
    let k = c.loop-number.number in
    let over : length files ≤ k = omega arith in
    first_is files (judged_of c.loop-number.walk)
    (ap (λ l. judged_after (judged_of c.loop-number.walk) (items_from k (map name_of (take k files)) l)) (sym (drop_all k files over)) ∙ c.loop-number.invariant)
