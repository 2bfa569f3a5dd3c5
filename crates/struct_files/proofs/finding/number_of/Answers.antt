use Rattle.std.proofs.Common.{◌∙◌, List, length, ap, arith}
use Rattle.std.proofs.lemmas.Iterator.Adapters.{position_from-zero}
use Rattle.tars_model.specs.declared.struct_desc.StructDesc.{StructDesc}
use Rattle.struct_files.specs.Steps.{is_struct}
use Rattle.struct_files.proofs.Schemas.{few_structs}
use Rattle.struct_files.proofs.finding.number_of.Goals as goal

pub overflow_cast-result : goal.overflow_cast-result
overflow_cast-result c =
    omega (arith, few_structs c.args.schema.now c.order.ensures.rules, c.in_ok-place.ensures.within, ap (λ (ss : List StructDesc). length ss) c.structs.ensures)

pub returns-in_err-place : goal.returns-in_err-place
returns-in_err-place c =
    c.from_residual.ensures ∙ rw c.structs.ensures at (c.in_err-place.ensures.place ∙ position_from-zero (is_struct c.args.home.now c.args.name.now) c.structs.result.now)

pub returns : goal.returns
returns c = rw c.structs.ensures at (c.in_ok-place.ensures.place ∙ position_from-zero (is_struct c.args.home.now c.args.name.now) c.structs.result.now)
