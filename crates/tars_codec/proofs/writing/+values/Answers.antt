use Rattle.std.proofs.Common.{◌≡◌, ◌++◌, arith, rules, sym, ap, ◌∙◌, length, length-append}
use Rattle.std.proofs.lemmas.Bool.{and_parts}
use Rattle.std.proofs.lemmas.List.{append-nil}
use Rattle.std.proofs.lemmas.Slice.Zip.{either_empty_from_Zip}
use Rattle.std.specs.Iterator.Adapters.{zip_first, zip_second}
use Rattle.std.specs.Slice.Iter.{iter_rest}
use Rattle.tars_model.specs.declared.ty.Ty.TheVariants as types
use Rattle.tars_model.specs.declared.value.Value.TheFolds.{the_lemmas}
use Rattle.tars_codec.proofs.Adding.{added_twice, room_after}
use Rattle.tars_codec.proofs.Fitting.{list_elements_fit, map_entries_fit, entry_key_fits, entry_value_fits, list_fits, map_fits, struct_fits}
use Rattle.tars_codec.proofs.Layers.{wire_entry_out, list_wire, map_wire, struct_wire}
use Rattle.tars_codec.proofs.Pieces.{list_pieces, map_pieces, none_spelled}
use Rattle.tars_codec.proofs.writing.+values.Goals as goal

pub put_list-put_size-requires-clause-room : goal.put_list-put_size-requires-clause-room
put_list-put_size-requires-clause-room t c =
    let room = rw (list_pieces c.args.tag c.args.schema.now c.args.ty.now c.in-Vector.of c.args.values.now c.in-Vector.is) at c.requires.room in
    omega (arith, c.put_head.ensures.spare, simp length-append at room)

pub put_list-put_elements-requires : goal.put_list-put_elements-requires
put_list-put_elements-requires t c =
    let is : c.args.ty.now ≡ types.Vector c.get.result.now = c.in-Vector.is ∙ ap types.Vector (sym c.get.ensures) in
    let room = rw (list_pieces c.args.tag c.args.schema.now c.args.ty.now c.get.result.now c.args.values.now is) at c.requires.room in (
      search (rules, the_lemmas),
      (
        (and_parts _ _ (list_elements_fit c.args.schema.now c.args.ty.now c.get.result.now c.args.values.now is c.requires.fits)).1,
        room_after _ (added_twice c.put_head.ensures c.put_size.ensures) room,
      ),
    )

pub put_list-returns : goal.put_list-returns
put_list-returns t c =
    let is : c.args.ty.now ≡ types.Vector c.get.result.now = c.in-Vector.is ∙ ap types.Vector (sym c.get.ensures) in
    rw (list_pieces c.args.tag c.args.schema.now c.args.ty.now c.get.result.now c.args.values.now is)
    (added_twice (added_twice c.put_head.ensures c.put_size.ensures) c.put_elements.ensures)

pub put_map-put_size-requires-clause-room : goal.put_map-put_size-requires-clause-room
put_map-put_size-requires-clause-room t c =
    let room = rw (map_pieces c.args.tag c.args.schema.now c.args.ty.now c.in-Map.key c.in-Map.to c.args.pairs.now c.in-Map.is) at c.requires.room in
    omega (arith, c.put_head.ensures.spare, simp length-append at room)

pub put_map-put_entries-requires : goal.put_map-put_entries-requires
put_map-put_entries-requires t c =
    let is : c.args.ty.now ≡ types.Map c.get.result.now c.get-in-Map.result.now = rw (c.get.ensures, c.get-in-Map.ensures) c.in-Map.is in
    let room = rw (map_pieces c.args.tag c.args.schema.now c.args.ty.now c.get.result.now c.get-in-Map.result.now c.args.pairs.now is) at c.requires.room in (
      search (rules, the_lemmas),
      (
        (and_parts _ _ (map_entries_fit c.args.schema.now c.args.ty.now c.get.result.now c.get-in-Map.result.now c.args.pairs.now is c.requires.fits)).1,
        room_after _ (added_twice c.put_head.ensures c.put_size.ensures) room,
      ),
    )

pub put_map-returns : goal.put_map-returns
put_map-returns t c =
    let is : c.args.ty.now ≡ types.Map c.get.result.now c.get-in-Map.result.now = rw (c.get.ensures, c.get-in-Map.ensures) c.in-Map.is in
    rw (map_pieces c.args.tag c.args.schema.now c.args.ty.now c.get.result.now c.get-in-Map.result.now c.args.pairs.now is)
    (added_twice (added_twice c.put_head.ensures c.put_size.ensures) c.put_entries.ensures)

pub put_entry-put_value-requires : goal.put_entry-put_value-requires
put_entry-put_value-requires t c =
    let room = rw (wire_entry_out c.args.pair.now) at c.requires.room in
    (search (rules, the_lemmas), (entry_key_fits c.args.schema.now c.args.key.now c.args.to.now c.args.pair.now c.requires.fits, omega (arith, simp length-append at room)))

pub put_entry-put_value-requires-2 : goal.put_entry-put_value-requires-2
put_entry-put_value-requires-2 t c =
    let room = rw (wire_entry_out c.args.pair.now) at c.requires.room in
    (search (rules, the_lemmas), (entry_value_fits c.args.schema.now c.args.key.now c.args.to.now c.args.pair.now c.requires.fits, room_after _ c.put_value.ensures room))

pub put_entry-returns : goal.put_entry-returns
put_entry-returns t c = rw (wire_entry_out c.args.pair.now) (added_twice c.put_value.ensures c.put_value-2.ensures)

pub put_members-returns : goal.put_members-returns
put_members-returns t c =
    let s = c.loop-member.member-iterator in
    let none = none_spelled c.args.schema.now (iter_rest (zip_first s)) (iter_rest (zip_second s)) (either_empty_from_Zip s c.next.new.self c.next.result c.in-None.is c.next.ensures.steps) in
    let i = c.loop-member.invariant in
    record {
      items = sym (append-nil c.loop-member.out.items) ∙ ap (λ x. c.loop-member.out.items ++ x) (sym none) ∙ i.so_far;
      spare = omega (arith, ap length none, i.room);
    }

pub put_value-put_list-requires : goal.put_value-put_list-requires
put_value-put_list-requires t c = (
  search (rules, the_lemmas),
  (
    rw (c.as_slice.ensures) (list_fits c.args.value.now c.args.schema.now c.args.ty.now c.in-List.values c.in-List.is c.requires.fits),
    rw (c.as_slice.ensures) (rw (list_wire c.args.value.now c.args.schema.now c.args.ty.now c.in-List.values c.in-List.is) at c.requires.room),
  ),
)

pub put_value-put_map-requires : goal.put_value-put_map-requires
put_value-put_map-requires t c = (
  search (rules, the_lemmas),
  (
    rw (c.as_slice-in-Map.ensures) (map_fits c.args.value.now c.args.schema.now c.args.ty.now c.in-Map.pairs c.in-Map.is c.requires.fits),
    rw (c.as_slice-in-Map.ensures) (rw (map_wire c.args.value.now c.args.schema.now c.args.ty.now c.in-Map.pairs c.in-Map.is) at c.requires.room),
  ),
)

pub put_value-put_struct-requires : goal.put_value-put_struct-requires
put_value-put_struct-requires t c = (
  search (rules, the_lemmas),
  (
    rw (c.as_slice-in-Struct.ensures) (struct_fits c.args.value.now c.args.schema.now c.args.ty.now c.in-Struct.values c.in-Struct.is c.requires.fits),
    rw (c.as_slice-in-Struct.ensures) (rw (struct_wire c.args.value.now c.args.schema.now c.args.ty.now c.in-Struct.values c.in-Struct.is) at c.requires.room),
  ),
)
