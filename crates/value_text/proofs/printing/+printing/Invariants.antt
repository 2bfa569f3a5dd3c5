use Rattle.std.proofs.Common.{◌≡◌, ◌++◌, [], drop, map}
use Rattle.std.specs.Iterator.Adapters.{zip_first, zip_second}
use Rattle.std.specs.Slice.Iter.{iter_rest}
use Rattle.value_text.specs.Printed.{listed, element_texts, entry_texts, member_texts, printing, entry_printing}
use Rattle.value_text.proofs.printing.+printing.Given as goal

abbrev pub invariant-put_values-loop-value : goal.invariant-put_values-loop-value
invariant-put_values-loop-value l =
    l.text ++ listed l.separator (element_texts l.schema l.of (map printing (drop l.value-index l.values)))
    ≡ l.fn.text ++ listed [] (element_texts l.schema l.of (map printing l.values))

abbrev pub invariant-put_pairs-loop-pair : goal.invariant-put_pairs-loop-pair
invariant-put_pairs-loop-pair l =
    l.text ++ listed l.separator (entry_texts l.schema l.key l.to (map entry_printing (drop l.pair-index l.pairs)))
    ≡ l.fn.text ++ listed [] (entry_texts l.schema l.key l.to (map entry_printing l.pairs))

abbrev pub invariant-put_members-loop-member : goal.invariant-put_members-loop-member
invariant-put_members-loop-member l =
    let members = iter_rest (zip_first l.member-iterator) in
    let values = iter_rest (zip_second l.member-iterator) in
    record {
      ready : (goal.iterator-put_members-loop-member).can_next l.member-iterator;
      finite : (goal.iterator-put_members-loop-member).is_finite l.member-iterator;
      so_far : l.text ++ listed l.separator (member_texts l.schema members (map printing values))
          ≡ l.fn.text ++ listed [] (member_texts l.schema l.members (map printing l.values));
    }
