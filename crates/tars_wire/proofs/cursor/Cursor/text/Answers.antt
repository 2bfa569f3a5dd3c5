use Rattle.tars_wire.proofs.Walking.Turns.{texts}
use Rattle.tars_wire.proofs.Walking.Calls.{head_asked, value_needs, value_told, value_left, value_stands}
use Rattle.tars_wire.proofs.cursor.Cursor.text.Goals as goal

pub known_head-requires : goal.known_head-requires
known_head-requires c = head_asked c.self.inside.rest.now c.self.inside.here c.self.inside.outer c.self.inside.depth c.self.view_is c.requires

pub known_text-requires : goal.known_text-requires
known_text-requires c = value_needs c.self.inside.rest.now c.self.inside.here c.self.inside.outer c.self.inside.depth c.self.view_is texts c.requires c.known_head.result.0 c.known_head.result.1.now c.known_head.ensures

pub invariant_of-self : goal.invariant_of-self
invariant_of-self c = value_stands c.self.inside.rest.now c.self.inside.here c.self.inside.outer c.self.inside.depth c.self.view_is texts c.requires c.known_head.result.0 c.known_head.result.1.now c.known_head.ensures c.known_text.result.0.now c.known_text.result.1.now c.known_text.ensures c.less-self-inside.result c.less-self-inside.ensures c.self.invariant.deep

pub returns-clause-text : goal.returns-clause-text
returns-clause-text c = value_told c.self.inside.rest.now c.self.inside.here c.self.inside.outer c.self.inside.depth c.self.view_is texts c.requires c.known_head.result.0 c.known_head.result.1.now c.known_head.ensures c.known_text.result.0.now c.known_text.result.1.now c.known_text.ensures

pub returns-clause-left : goal.returns-clause-left
returns-clause-left c = value_left c.self.inside.rest.now c.self.inside.here c.self.inside.outer c.self.inside.depth c.self.view_is texts c.requires c.known_head.result.0 c.known_head.result.1.now c.known_head.ensures c.known_text.result.0.now c.known_text.result.1.now c.known_text.ensures c.less-self-inside.result c.less-self-inside.ensures
