use Rattle.idl_parse.proofs.Parsing.Repeating.Rooms.{no_room_left, room_left}
use Rattle.idl_parse.proofs.parser.types.+types.Goals as goal

pub type_tree-returns-then-room-eq0 : goal.type_tree-returns-then-room-eq0
type_tree-returns-then-room-eq0 t c = rw (no_room_left c.args.room c.if-room-eq0.true) c.no_room.ensures

pub type_tree-returns : goal.type_tree-returns
type_tree-returns t c = rw (room_left c.args.room c.if-room-eq0.false) c.type_around.ensures
