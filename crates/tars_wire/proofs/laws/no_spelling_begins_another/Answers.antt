use Rattle.tars_wire.proofs.Grammar.Extends.{no_prefix_law}
use Rattle.tars_wire.proofs.laws.no_spelling_begins_another.Goals as goal

pub returns : goal.returns
returns c = no_prefix_law
