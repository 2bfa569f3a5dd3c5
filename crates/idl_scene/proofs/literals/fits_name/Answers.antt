use Rattle.idl_scene.proofs.TypeSpans.{named_in}
use Rattle.idl_scene.proofs.literals.fits_name.Goals as goal

pub fits_enum-requires-clause-of : goal.fits_enum-requires-clause-of
fits_enum-requires-clause-of c = named_in c.args.scene.now.text c.args.ty.now c.in-Named.of c.requires.ty c.in-Named.is
