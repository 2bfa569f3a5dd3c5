use Rattle.std.proofs.Common.{[], ◌∙◌}
use Rattle.idl_rules.specs.Parts.{name_list}
use Rattle.idl_rules.proofs.SeenLaws.{words_next, seen_next, names_next}
use Rattle.idl_rules.proofs.named.judge_names.Goals as goal

pub loop-count-preserved : goal.loop-count-preserved
loop-count-preserved g c =
    let f = g.T.Named.name_of in
    let xs = c.args.parts.now in
    let x = c.index-parts-count.result in
    let i = c.loop-count.count in
    let s = c.args.scene.now in
    let seen = rw c.name.ensures at c.in_ok-judge_name.ensures.seen in
    let found = rw (c.name.ensures, c.is_full.ensures) at c.in_ok-judge_name.ensures.found in
    record {
      words = seen ∙ words_next f s xs i x c.loop-count-test.true c.index-parts-count.is c.loop-count.seen c.loop-count.invariant.words;
      seen = rw seen (seen_next f s xs i x c.loop-count-test.true c.index-parts-count.is c.loop-count.seen c.loop-count.invariant.seen);
      found = names_next f s xs i x c.loop-count-test.true c.index-parts-count.is c.loop-count.seen (name_list c.args.declares c.args.most []) c.loop-count.invariant.seen c.loop-count.invariant.found found;
    }
