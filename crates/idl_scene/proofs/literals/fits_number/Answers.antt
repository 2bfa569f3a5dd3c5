use Rattle.std.proofs.Common.{sym}
use Rattle.idl_lex.specs.Meanings.{whole_number}
use Rattle.idl_parse.specs.declared.tree.type_tree.TypeTree.{out-TypeTree}
use Rattle.idl_scene.specs.Items.{word}
use Rattle.idl_scene.proofs.NumberLaws.{none_fits}
use Rattle.idl_scene.proofs.literals.fits_number.Goals as goal

pub returns-in-None : goal.returns-in-None
returns-in-None c = sym (none_fits c.args.scene.now (out-TypeTree c.args.ty.now) (whole_number (word c.args.scene.now.text c.args.span)) (sym c.in-None.ensures))
