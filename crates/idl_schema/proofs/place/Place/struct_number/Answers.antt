use Rattle.std.proofs.Common.{sym, ap, ◌∙◌, arith}
use Rattle.idl_schema.specs.SchemaOf.{Place, struct_number}
use Rattle.idl_schema.proofs.NameLaws.{struct_found, struct_count}
use Rattle.idl_schema.proofs.place.Place.struct_number.Goals as goal

pub overflow_cast-result : goal.overflow_cast-result
overflow_cast-result c = omega (arith, c.in-Some.ensures.within, struct_count c.self.inside.building.now c.self.invariant.2, c.self.invariant.0)

pub returns-in-Some : goal.returns-in-Some
returns-in-Some c =
    sym c.in-Some.is ∙ c.number.ensures.number ∙ struct_found c.self.inside.building.now c.self.invariant.2 c.args.home.now c.args.name.now
    ∙ ap (λ (p : Place). struct_number p.so_far c.args.home.now c.args.name.now) c.self.view_is

pub returns-in-None : goal.returns-in-None
returns-in-None c =
    sym c.in-None.is ∙ c.number.ensures.number ∙ struct_found c.self.inside.building.now c.self.invariant.2 c.args.home.now c.args.name.now
    ∙ ap (λ (p : Place). struct_number p.so_far c.args.home.now c.args.name.now) c.self.view_is
