use Rattle.std.proofs.Common.{◌≡◌, ◌∙◌, length, take, drop, refl, ap, arith, rules}
use Rattle.std.proofs.lemmas.List.{length-take}
use Rattle.tars_model.specs.Members.{HaveRisingTags}
use Rattle.rpc_packet.specs.Packets.{request_members}
use Rattle.rpc_packet.proofs.MemberValues.{as_many, fit_drop, fit_take}
use Rattle.rpc_packet.proofs.parts.lengths.Goals as goal

ten_members : length request_members ≡ 10
unfolding request_members
ten_members = refl

front_rises : HaveRisingTags (take 3 request_members)
unfolding request_members
front_rises = search rules

middle_rises : HaveRisingTags (take 3 (drop 4 request_members))
unfolding request_members
middle_rises = search rules

pub slice_bounds-encoded_len-end : goal.slice_bounds-encoded_len-end
slice_bounds-encoded_len-end c = omega (arith, length-take 3 c.args.members.now, ap length c.requires.members ∙ ten_members)

pub slice_bounds-encoded_len-end-2 : goal.slice_bounds-encoded_len-end-2
slice_bounds-encoded_len-end-2 c = omega (arith, length-take 3 c.args.values.now, as_many request_members c.args.values.now c.requires.fits ∙ ten_members)

pub encoded_len-front-requires-clause-rising : goal.encoded_len-front-requires-clause-rising
encoded_len-front-requires-clause-rising c = rw c.requires.members front_rises

pub slice_bounds-encoded_len-end-3 : goal.slice_bounds-encoded_len-end-3
slice_bounds-encoded_len-end-3 c = omega (arith, ap length c.requires.members ∙ ten_members)

pub encoded_len-middle-requires-clause-rising : goal.encoded_len-middle-requires-clause-rising
encoded_len-middle-requires-clause-rising c = rw c.requires.members middle_rises

pub encoded_len-middle-requires-clause-fits : goal.encoded_len-middle-requires-clause-fits
encoded_len-middle-requires-clause-fits c =
    rw (c.empty-schema.ensures, c.requires.members) (fit_take 3 (drop 4 request_members) (drop 4 c.args.values.now) (fit_drop 4 request_members c.args.values.now c.requires.fits))
