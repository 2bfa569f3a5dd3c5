use Rattle.std.proofs.Common.{rules}
use Rattle.std.proofs.lemmas.Int.{to_z-of_z}
use mir.Val.{SFits}
use mir.Syntax.{w64}
use Rattle.tars_wire.proofs.Walking.Turns.{numbers}
use Rattle.tars_wire.proofs.Walking.Calls.{head_asked, value_needs, value_told, value_left, value_stands}
use Rattle.tars_wire.proofs.cursor.Cursor.number.Goals as goal

pub known_head-requires : goal.known_head-requires
known_head-requires c = head_asked c.self.inside.rest.now c.self.inside.here c.self.inside.outer c.self.inside.depth c.self.view_is c.requires

pub known_number-number-requires : goal.known_number-number-requires
known_number-number-requires c = value_needs c.self.inside.rest.now c.self.inside.here c.self.inside.outer c.self.inside.depth c.self.view_is numbers c.requires c.known_head.result.0 c.known_head.result.1.now c.known_head.ensures

pub invariant_of-self : goal.invariant_of-self
invariant_of-self c = value_stands c.self.inside.rest.now c.self.inside.here c.self.inside.outer c.self.inside.depth c.self.view_is numbers c.requires c.known_head.result.0 c.known_head.result.1.now c.known_head.ensures c.known_number-number.result.0 c.known_number-number.result.1.now c.known_number-number.ensures c.less-self-inside.result c.less-self-inside.ensures c.self.invariant.deep

pub returns-clause-number : goal.returns-clause-number
returns-clause-number c = λ other is_left.
    let fits : SFits w64 c.known_number-number.result.0 = search rules in
    rw (to_z-of_z w64 c.known_number-number.result.0 fits) (value_told c.self.inside.rest.now c.self.inside.here c.self.inside.outer c.self.inside.depth c.self.view_is numbers c.requires c.known_head.result.0 c.known_head.result.1.now c.known_head.ensures c.known_number-number.result.0 c.known_number-number.result.1.now c.known_number-number.ensures other is_left)

pub returns-clause-left : goal.returns-clause-left
returns-clause-left c = value_left c.self.inside.rest.now c.self.inside.here c.self.inside.outer c.self.inside.depth c.self.view_is numbers c.requires c.known_head.result.0 c.known_head.result.1.now c.known_head.ensures c.known_number-number.result.0 c.known_number-number.result.1.now c.known_number-number.ensures c.less-self-inside.result c.less-self-inside.ensures
