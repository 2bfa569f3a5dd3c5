use Rattle.std.proofs.Common.{◌≡◌, get_or, w64, None, ◌∙◌, rules, SFits}
use Rattle.std.proofs.lemmas.Int.{to_z-of_z}
use Rattle.std.proofs.lemmas.List.{get_or_default}
use Rattle.idl_rules.proofs.EnumeratorLaws.{number_next, items_next}
use Rattle.idl_rules.proofs.enumerators.judge_items.Goals as goal

pub loop-item-preserved : goal.loop-item-preserved
loop-item-preserved c =
    let s = c.args.scene.now in
    let items = c.args.items.now in
    let i = c.loop-item.item-index in
    let item = get_or items i (record { name = record { start = 0; end = 0 }; number = None }) in
    let within = c.loop-item-test.true in
    let is : item ≡ get_or items i item = get_or_default items i _ item within in
    let invariant = c.loop-item.invariant in
    let fits : SFits w64 c.judge_item-next.result = search rules in
    record {
      next = to_z-of_z w64 c.judge_item-next.result fits ∙ c.judge_item-next.ensures.next ∙ number_next s items i item within is _ invariant.next;
      found = items_next s items i item within is _ invariant.next invariant.found c.judge_item-next.ensures.found;
    }
