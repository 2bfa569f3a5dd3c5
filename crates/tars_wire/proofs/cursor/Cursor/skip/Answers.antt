use Rattle.tars_wire.proofs.Walking.Calls.{head_asked, skip_room, skip_needs, skip_left, skip_stands}
use Rattle.tars_wire.proofs.cursor.Cursor.skip.Goals as goal

pub known_head-requires : goal.known_head-requires
known_head-requires c = head_asked c.self.inside.rest.now c.self.inside.here c.self.inside.outer c.self.inside.depth c.self.view_is c.requires

pub past_value-self-inside-requires-clause-deep : goal.past_value-self-inside-requires-clause-deep
past_value-self-inside-requires-clause-deep c = skip_room c.self.inside.rest.now c.self.inside.here c.self.inside.outer c.self.inside.depth c.self.view_is c.requires c.known_head.result.0 c.known_head.result.1.now c.known_head.ensures

pub past_value-self-inside-requires-clause-is : goal.past_value-self-inside-requires-clause-is
past_value-self-inside-requires-clause-is c = skip_needs c.self.inside.rest.now c.self.inside.here c.self.inside.outer c.self.inside.depth c.self.view_is c.requires c.known_head.result.0 c.known_head.result.1.now c.known_head.ensures

pub invariant_of-self : goal.invariant_of-self
invariant_of-self c = skip_stands c.self.inside.rest.now c.self.inside.here c.self.inside.outer c.self.inside.depth c.self.view_is c.requires c.known_head.result.0 c.known_head.result.1.now c.known_head.ensures c.past_value-self-inside.result.now c.past_value-self-inside.ensures c.less-self-inside.result c.less-self-inside.ensures c.self.invariant.deep

pub returns : goal.returns
returns c = skip_left c.self.inside.rest.now c.self.inside.here c.self.inside.outer c.self.inside.depth c.self.view_is c.requires c.known_head.result.0 c.known_head.result.1.now c.known_head.ensures c.past_value-self-inside.result.now c.past_value-self-inside.ensures c.less-self-inside.result c.less-self-inside.ensures
