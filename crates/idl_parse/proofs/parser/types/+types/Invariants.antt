use Rattle.std.proofs.Common.{◌+◌, ◌*◌}
use Rattle.idl_parse.proofs.parser.types.+types.Given as goal

abbrev pub decreases-map : goal.decreases-map
decreases-map l = 3 * l.room + 1

abbrev pub decreases-type_tree : goal.decreases-type_tree
decreases-type_tree l = 3 * l.room

abbrev pub decreases-vector : goal.decreases-vector
decreases-vector l = 3 * l.room + 1

abbrev pub decreases-type_around : goal.decreases-type_around
decreases-type_around l = 3 * l.room + 2
