use Rattle.std.proofs.Common.{◌-◌, ◌∷◌, arith}
use Rattle.tars_wire.specs.Heads.{MAX_DEPTH}
use Rattle.tars_wire.specs.Left.{left_over, levels_around}
use Rattle.tars_wire.proofs.Walking.Calls.{spelled as here_spelled}
use Rattle.tars_wire.proofs.Walking.Entering.{some_around, outer_left, around_length, left_at, two_left}
use Rattle.tars_wire.proofs.cursor.Cursor.leave.Goals as goal

pub invariant_of-self : goal.invariant_of-self
invariant_of-self c =
    let room = MAX_DEPTH - c.self.inside.depth in
    let around = levels_around c.self.inside.outer c.self.inside.depth in
    let spelled = here_spelled c.self.inside.rest.now c.self.inside.here c.self.inside.outer c.self.inside.depth c.self.view_is c.requires.left c.requires.is_left in
    let some = some_around room c.self.inside.here around c.requires.left c.self.inside.rest.now spelled c.requires.two in
    let depth = around_length c.self.inside.outer c.self.inside.depth in
    record {
      deep = omega arith;
      left = left_over c.requires.left;
      spelled = left_at c.self.inside.outer c.self.inside.depth (left_over c.requires.left) c.past_level-self-inside.result.now (omega arith) c.self.invariant.deep (outer_left room c.self.inside.here around c.requires.left c.self.inside.rest.now spelled c.requires.two c.past_level-self-inside.result.now c.past_level-self-inside.ensures);
    }

pub returns : goal.returns
returns c = λ other is_left.
    let room = MAX_DEPTH - c.self.inside.depth in
    let around = levels_around c.self.inside.outer c.self.inside.depth in
    let spelled = here_spelled c.self.inside.rest.now c.self.inside.here c.self.inside.outer c.self.inside.depth c.self.view_is c.requires.left c.requires.is_left in
    let spelled_other = here_spelled c.self.inside.rest.now c.self.inside.here c.self.inside.outer c.self.inside.depth c.self.view_is other is_left in
    let two = two_left room (c.self.inside.here ∷ around) c.requires.left other c.self.inside.rest.now spelled spelled_other c.requires.two in
    let some = some_around room c.self.inside.here around c.requires.left c.self.inside.rest.now spelled c.requires.two in
    let depth = around_length c.self.inside.outer c.self.inside.depth in
    left_at c.self.inside.outer c.self.inside.depth (left_over other) c.past_level-self-inside.result.now (omega arith) c.self.invariant.deep (outer_left room c.self.inside.here around other c.self.inside.rest.now spelled_other two c.past_level-self-inside.result.now c.past_level-self-inside.ensures)
