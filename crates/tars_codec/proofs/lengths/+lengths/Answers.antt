use Rattle.std.proofs.Common.{◌≡◌, arith, rules, sym, ap, ◌∙◌, length, length-append}
use Rattle.std.proofs.lemmas.Bool.{and_parts}
use Rattle.std.proofs.lemmas.List.{drop_all}
use Rattle.std.proofs.lemmas.Slice.Zip.{either_empty_from_Zip}
use Rattle.std.specs.Iterator.Adapters.{zip_first, zip_second}
use Rattle.std.specs.Slice.Iter.{iter_rest}
use Rattle.tars_model.specs.declared.ty.Ty.TheVariants as types
use Rattle.tars_model.specs.declared.value.Value.TheFolds.{the_lemmas}
use Rattle.tars_codec.specs.Spellings.{spelled_elements, spelled_entries}
use Rattle.tars_codec.proofs.Fitting.{list_elements_fit, map_entries_fit, entry_key_fits, entry_value_fits, list_fits, map_fits, struct_fits}
use Rattle.tars_codec.proofs.Layers.{wire_entry_out}
use Rattle.tars_codec.proofs.Pieces.{list_pieces, map_pieces, none_spelled}
use Rattle.tars_codec.proofs.lengths.+lengths.Goals as goal

pub elements_len-returns : goal.elements_len-returns
elements_len-returns t c =
    let none = ap (λ vs. length (spelled_elements c.args.schema.now c.args.of.now vs)) (drop_all c.loop-value.value-index c.args.values.now c.loop-value-test.false) in
    omega (arith, none)

pub entries_len-returns : goal.entries_len-returns
entries_len-returns t c =
    let none = ap (λ ps. length (spelled_entries c.args.schema.now c.args.key.now c.args.to.now ps)) (drop_all c.loop-pair.pair-index c.args.pairs.now c.loop-pair-test.false) in
    omega (arith, none)

pub members_len-returns : goal.members_len-returns
members_len-returns t c =
    let s = c.loop-member.member-iterator in
    let none = ap length (none_spelled c.args.schema.now (iter_rest (zip_first s)) (iter_rest (zip_second s)) (either_empty_from_Zip s c.next.new.self c.next.result c.in-None.is c.next.ensures.steps)) in
    omega (arith, none, c.loop-member.invariant.so_far)

pub entry_len-value_len-key-requires : goal.entry_len-value_len-key-requires
entry_len-value_len-key-requires t c =
    (search (rules, the_lemmas), entry_key_fits c.args.schema.now c.args.key.now c.args.to.now c.args.pair.now c.requires)

pub entry_len-value_len-requires : goal.entry_len-value_len-requires
entry_len-value_len-requires t c =
    (search (rules, the_lemmas), entry_value_fits c.args.schema.now c.args.key.now c.args.to.now c.args.pair.now c.requires)

pub entry_len-returns : goal.entry_len-returns
entry_len-returns t c = rw (wire_entry_out c.args.pair.now) (simp length-append (omega arith))

pub list_len-elements_len-requires : goal.list_len-elements_len-requires
list_len-elements_len-requires t c =
    (search (rules, the_lemmas), (and_parts _ _ (list_elements_fit c.args.schema.now c.args.ty.now c.get.result.now c.args.values.now (c.in-Vector.is ∙ ap types.Vector (sym c.get.ensures)) c.requires)).1)

pub list_len-returns : goal.list_len-returns
list_len-returns t c =
    rw (list_pieces c.args.tag c.args.schema.now c.args.ty.now c.get.result.now c.args.values.now (c.in-Vector.is ∙ ap types.Vector (sym c.get.ensures)))
    (simp length-append (omega (arith, c.head_len.ensures.value 9)))

pub map_len-entries_len-requires : goal.map_len-entries_len-requires
map_len-entries_len-requires t c =
    let is : c.args.ty.now ≡ types.Map c.get.result.now c.get-in-Map.result.now = rw (c.get.ensures, c.get-in-Map.ensures) c.in-Map.is in
    (search (rules, the_lemmas), (and_parts _ _ (map_entries_fit c.args.schema.now c.args.ty.now c.get.result.now c.get-in-Map.result.now c.args.pairs.now is c.requires)).1)

pub map_len-returns : goal.map_len-returns
map_len-returns t c =
    let is : c.args.ty.now ≡ types.Map c.get.result.now c.get-in-Map.result.now = rw (c.get.ensures, c.get-in-Map.ensures) c.in-Map.is in
    rw (map_pieces c.args.tag c.args.schema.now c.args.ty.now c.get.result.now c.get-in-Map.result.now c.args.pairs.now is)
    (simp length-append (omega (arith, c.head_len.ensures.value 8)))

pub value_len-list_len-requires : goal.value_len-list_len-requires
value_len-list_len-requires t c =
    (search (rules, the_lemmas), rw (c.as_slice.ensures) (list_fits c.args.value.now c.args.schema.now c.args.ty.now c.in-List.values c.in-List.is c.requires))

pub value_len-map_len-requires : goal.value_len-map_len-requires
value_len-map_len-requires t c =
    (search (rules, the_lemmas), rw (c.as_slice-in-Map.ensures) (map_fits c.args.value.now c.args.schema.now c.args.ty.now c.in-Map.pairs c.in-Map.is c.requires))

pub value_len-struct_len-requires : goal.value_len-struct_len-requires
value_len-struct_len-requires t c =
    (search (rules, the_lemmas), rw (c.as_slice-in-Struct.ensures) (struct_fits c.args.value.now c.args.schema.now c.args.ty.now c.in-Struct.values c.in-Struct.is c.requires))
