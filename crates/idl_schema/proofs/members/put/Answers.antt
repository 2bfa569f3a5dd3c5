use Rattle.std.proofs.Common.{ℕ, ◌≤◌, length, subst, sym, ap, ◌∙◌, arith}
use Rattle.std.specs.List.{insert, position_or_len}
use Rattle.idl_schema.proofs.InsertLaws.{above, inserted, position_within}
use Rattle.idl_schema.proofs.members.put.Goals as goal

pub insert-requires : goal.insert-requires
insert-requires c =
    let within : c.place_of-at.result ≤ length c.as_slice.result.now =
    subst (λ (k : ℕ). k ≤ length c.as_slice.result.now) (sym c.place_of-at.ensures) (position_within c.args.m c.as_slice.result.now) in
    omega arith

pub returns : goal.returns
returns c =
    c.in_ok-insert.ensures.items
    ∙ ap (λ k. insert c.args.members.now.items k c.args.m) (c.place_of-at.ensures ∙ ap (position_or_len (above c.args.m)) c.as_slice.ensures.value)
    ∙ inserted c.args.m c.args.members.now.items
