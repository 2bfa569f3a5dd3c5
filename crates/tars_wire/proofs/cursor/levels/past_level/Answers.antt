use Rattle.std.proofs.Common.{◌≡◌, ℕ, false, IsSome, is_some, List, sym, ap, ◌∙◌}
use Rattle.tars_wire.specs.Left.{Remaining, next_field, after_next, head_in, LevelLeft}
use Rattle.tars_wire.proofs.Walking.Leaving.{next_prefix, next_passes, next_room, next_left, next_shorter, end_prefix, end_struct}
use Rattle.tars_wire.proofs.cursor.levels.past_level.Goals as goal

pub known_head-requires : goal.known_head-requires
known_head-requires c =
    let at = c.loop-rest.invariant.stands in
    let some : IsSome (head_in (next_field at.inner)) = sym (ap is_some (c.next_head.ensures c.args.room at.inner at.rest at.is_left)) ∙ (sym c.is_some.ensures ∙ c.loop-rest-test.true) in
    next_prefix c.args.room c.loop-rest.here at.inner c.loop-rest.rest.now at.rest at.is_left some

pub past_value-rest-requires-clause-deep : goal.past_value-rest-requires-clause-deep
past_value-rest-requires-clause-deep c =
    let at = c.loop-rest.invariant.stands in
    let some : IsSome (head_in (next_field at.inner)) = sym (ap is_some (c.next_head.ensures c.args.room at.inner at.rest at.is_left)) ∙ (sym c.is_some.ensures ∙ c.loop-rest-test.true) in
    next_room c.args.room c.loop-rest.here at.inner c.loop-rest.rest.now at.rest at.is_left some c.known_head.result.0 c.known_head.result.1.now c.known_head.ensures

pub past_value-rest-requires-clause-is : goal.past_value-rest-requires-clause-is
past_value-rest-requires-clause-is c =
    let at = c.loop-rest.invariant.stands in
    let some : IsSome (head_in (next_field at.inner)) = sym (ap is_some (c.next_head.ensures c.args.room at.inner at.rest at.is_left)) ∙ (sym c.is_some.ensures ∙ c.loop-rest-test.true) in
    next_passes c.args.room c.loop-rest.here at.inner c.loop-rest.rest.now at.rest at.is_left some c.known_head.result.0 c.known_head.result.1.now c.known_head.ensures

pub loop-rest-smaller : goal.loop-rest-smaller
loop-rest-smaller c =
    let at = c.loop-rest.invariant.stands in
    let some : IsSome (head_in (next_field at.inner)) = sym (ap is_some (c.next_head.ensures c.args.room at.inner at.rest at.is_left)) ∙ (sym c.is_some.ensures ∙ c.loop-rest-test.true) in
    next_shorter c.args.room c.loop-rest.here at.inner c.loop-rest.rest.now at.rest at.is_left some c.known_head.result.0 c.known_head.result.1.now c.known_head.ensures c.past_value-rest.result.now c.past_value-rest.ensures

pub loop-rest-preserved : goal.loop-rest-preserved
loop-rest-preserved c =
    let at = c.loop-rest.invariant.stands in
    let onward : (now : Remaining) (after : List ℕ) → LevelLeft c.args.room c.loop-rest.here now c.loop-rest.rest.now after → LevelLeft c.args.room c.less-here.result (after_next now) c.past_value-rest.result.now after = λ now after x.
    let some : IsSome (head_in (next_field now)) = sym (ap is_some (c.next_head.ensures c.args.room now after x)) ∙ (sym c.is_some.ensures ∙ c.loop-rest-test.true) in
    rw c.less-here.ensures (next_left c.args.room c.loop-rest.here now c.loop-rest.rest.now after x some c.known_head.result.0 c.known_head.result.1.now c.known_head.ensures c.past_value-rest.result.now c.past_value-rest.ensures) in
    record {
      stands = record { inner = after_next at.inner; rest = at.rest; is_left = onward at.inner at.rest at.is_left };
      same = λ inner after x. let y = c.loop-rest.invariant.same inner after x in (after_next y.0, onward y.0 after y.1);
    }

pub known_head-requires-in-Struct : goal.known_head-requires-in-Struct
known_head-requires-in-Struct c =
    let at = c.loop-rest.invariant.stands in
    let none : is_some (head_in (next_field at.inner)) ≡ false = sym (ap is_some (c.next_head.ensures c.args.room at.inner at.rest at.is_left)) ∙ (sym c.is_some.ensures ∙ c.loop-rest-test.false) in
    end_prefix c.args.room c.loop-rest.here at.inner c.loop-rest.rest.now at.rest at.is_left none c.in-Struct.is

pub returns-in-Struct : goal.returns-in-Struct
returns-in-Struct c = λ inner after x.
    let y = c.loop-rest.invariant.same inner after x in
    let none : is_some (head_in (next_field y.0)) ≡ false = sym (ap is_some (c.next_head.ensures c.args.room y.0 after y.1)) ∙ (sym c.is_some.ensures ∙ c.loop-rest-test.false) in
    end_struct c.args.room c.loop-rest.here y.0 c.loop-rest.rest.now after c.known_head-in-Struct.result.0 c.known_head-in-Struct.result.1.now y.1 none c.in-Struct.is c.known_head-in-Struct.ensures
