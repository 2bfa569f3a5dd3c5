use Rattle.std.proofs.Common.{◌≡◌, true, false}
use Rattle.tars_wire.specs.Heads.{is_end}
use Rattle.tars_wire.specs.PrefixSteps.{is_over}
use Rattle.tars_wire.proofs.Walking.OneField.{level_is_over, head_is_there, head_is_next, end_is_next}
use Rattle.tars_wire.proofs.cursor.levels.next_head.Goals as goal

pub returns-then-is_over : goal.returns-then-is_over
returns-then-is_over c =
    let over : is_over c.args.here c.args.rest.now ≡ true = cc in
    λ room inner after x. level_is_over room c.args.here inner c.args.rest.now after x over

pub known_head-requires : goal.known_head-requires
known_head-requires c =
    let over : is_over c.args.here c.args.rest.now ≡ false = cc in
    head_is_there c.requires.room c.args.here c.requires.inner c.args.rest.now c.requires.rest c.requires.is_left over

pub returns-then-is_end : goal.returns-then-is_end
returns-then-is_end c =
    let over : is_over c.args.here c.args.rest.now ≡ false = cc in
    let ends : is_end c.known_head.result.0.kind ≡ true = cc in
    λ room inner after x. end_is_next room c.args.here inner c.args.rest.now after c.known_head.result.0 c.known_head.result.1.now over c.known_head.ensures ends x

pub returns-else-is_end : goal.returns-else-is_end
returns-else-is_end c =
    let over : is_over c.args.here c.args.rest.now ≡ false = cc in
    let ends : is_end c.known_head.result.0.kind ≡ false = cc in
    λ room inner after x. head_is_next room c.args.here inner c.args.rest.now after c.known_head.result.0 c.known_head.result.1.now over c.known_head.ensures ends x
