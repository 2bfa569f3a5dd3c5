use Rattle.tars_wire.proofs.Walking.Turns.{simple_lists}
use Rattle.tars_wire.proofs.Walking.Calls.{head_asked, value_needs, value_told, value_left, value_stands}
use Rattle.tars_wire.proofs.cursor.Cursor.simple.Goals as goal

pub known_head-requires : goal.known_head-requires
known_head-requires c = head_asked c.self.inside.rest.now c.self.inside.here c.self.inside.outer c.self.inside.depth c.self.view_is c.requires

pub known_simple-requires : goal.known_simple-requires
known_simple-requires c = value_needs c.self.inside.rest.now c.self.inside.here c.self.inside.outer c.self.inside.depth c.self.view_is simple_lists c.requires c.known_head.result.0 c.known_head.result.1.now c.known_head.ensures

pub invariant_of-self : goal.invariant_of-self
invariant_of-self c = value_stands c.self.inside.rest.now c.self.inside.here c.self.inside.outer c.self.inside.depth c.self.view_is simple_lists c.requires c.known_head.result.0 c.known_head.result.1.now c.known_head.ensures c.known_simple.result.0.now c.known_simple.result.1.now c.known_simple.ensures c.less-self-inside.result c.less-self-inside.ensures c.self.invariant.deep

pub returns-clause-bytes : goal.returns-clause-bytes
returns-clause-bytes c = value_told c.self.inside.rest.now c.self.inside.here c.self.inside.outer c.self.inside.depth c.self.view_is simple_lists c.requires c.known_head.result.0 c.known_head.result.1.now c.known_head.ensures c.known_simple.result.0.now c.known_simple.result.1.now c.known_simple.ensures

pub returns-clause-left : goal.returns-clause-left
returns-clause-left c = value_left c.self.inside.rest.now c.self.inside.here c.self.inside.outer c.self.inside.depth c.self.view_is simple_lists c.requires c.known_head.result.0 c.known_head.result.1.now c.known_head.ensures c.known_simple.result.0.now c.known_simple.result.1.now c.known_simple.ensures c.less-self-inside.result c.less-self-inside.ensures
