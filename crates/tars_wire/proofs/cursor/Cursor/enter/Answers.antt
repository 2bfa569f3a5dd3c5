use Rattle.std.proofs.Common.{arith}
use Rattle.tars_wire.specs.Left.{entered}
use Rattle.tars_wire.proofs.Walking.Calls.{head_asked, level_needs, level_room, two_entered, size_told, level_left, level_stands}
use Rattle.tars_wire.proofs.cursor.Cursor.enter.Goals as goal

pub known_head-requires : goal.known_head-requires
known_head-requires c = head_asked c.self.inside.rest.now c.self.inside.here c.self.inside.outer c.self.inside.depth c.self.view_is c.requires

pub enter_level-inside-requires : goal.enter_level-inside-requires
enter_level-inside-requires c = level_needs c.self.inside.rest.now c.self.inside.here c.self.inside.outer c.self.inside.depth c.self.view_is c.requires c.known_head.result.0 c.known_head.result.1.now c.known_head.ensures

pub bounds-self-inside-self-inside : goal.bounds-self-inside-self-inside
bounds-self-inside-self-inside c = let some = level_room c.self.inside.rest.now c.self.inside.here c.self.inside.outer c.self.inside.depth c.self.view_is c.requires c.known_head.result.0 c.known_head.result.1.now c.known_head.ensures in omega arith

pub invariant_of-self : goal.invariant_of-self
invariant_of-self c = level_stands c.self.inside.rest.now c.self.inside.here c.self.inside.outer c.self.inside.depth c.self.view_is c.requires c.known_head.result.0 c.known_head.result.1.now c.known_head.ensures c.enter_level-inside.result.0 c.enter_level-inside.result.1 c.enter_level-inside.result.2.now c.enter_level-inside.ensures c.less.result c.less.ensures (omega arith)

pub returns-clause-size : goal.returns-clause-size
returns-clause-size c = size_told c.self.inside.rest.now c.self.inside.here c.self.inside.outer c.self.inside.depth c.self.view_is c.requires c.known_head.result.0 c.known_head.result.1.now c.known_head.ensures c.enter_level-inside.result.0 c.enter_level-inside.result.1 c.enter_level-inside.result.2.now c.enter_level-inside.ensures

pub returns-clause-left : goal.returns-clause-left
returns-clause-left c = level_left c.self.inside.rest.now c.self.inside.here c.self.inside.outer c.self.inside.depth c.self.view_is c.requires c.known_head.result.0 c.known_head.result.1.now c.known_head.ensures c.enter_level-inside.result.0 c.enter_level-inside.result.1 c.enter_level-inside.result.2.now c.enter_level-inside.ensures c.less.result c.less.ensures (omega arith)

pub returns-clause-inside : goal.returns-clause-inside
returns-clause-inside c = record {
  left = entered c.requires.next.left;
  is_left = returns-clause-left c c.requires.next.left c.requires.next.is_left;
  two = two_entered c.self.inside.rest.now c.self.inside.here c.self.inside.outer c.self.inside.depth c.self.view_is c.requires c.known_head.result.0 c.known_head.result.1.now c.known_head.ensures;
}
