use Rattle.std.proofs.lemmas.Slice.Zip.{either_empty_from_Zip}
use Rattle.std.specs.Iterator.Adapters.{zip_first, zip_second}
use Rattle.std.specs.Slice.Iter.{iter_rest}
use Rattle.value_text.proofs.Appending.{entry_is_printed, members_are_printed}
use Rattle.value_text.proofs.printing.+printing.Goals as goal

pub put_entry-returns : goal.put_entry-returns
put_entry-returns t c =
    rw (← entry_is_printed c.args.schema.now c.args.key.now c.args.to.now c.args.pair.now c.args.text.now c.put_value.new.text c.word.new.self c.in_ok-put_value.ensures c.in_ok-word.ensures) c.put_value-2.ensures

pub put_members-returns : goal.put_members-returns
put_members-returns t c =
    let s = c.loop-member.member-iterator in
    members_are_printed c.args.schema.now (iter_rest (zip_first s)) (iter_rest (zip_second s)) c.loop-member.separator.now c.loop-member.text _ (either_empty_from_Zip s c.next.new.self c.next.result c.in-None.is c.next.ensures.steps) c.loop-member.invariant.so_far
