use Rattle.std.proofs.Common.{◌≡◌, true, List, map, refl, ap, ◌∙◌, subst}
use Rattle.tars_decode.proofs.CallerLemmas.{struct_members_fit}
use Rattle.tars_model.proofs.CallerLemmas.{told_fits_struct}
use Rattle.tars_model.specs.Values.{told, fits_struct, fit_members}
use Rattle.tars_model.specs.declared.member.Member.{Member}
use Rattle.tars_model.specs.declared.ty.Ty.TheVariants as types
use Rattle.tars_model.specs.declared.ty.Ty.TheVariants.{outs-Struct}
use Rattle.tars_model.specs.declared.value.Value.TheVariants as values
use Rattle.value_tables.proofs.structs.put_decoded.Goals as goal

pub decode-requires-clause-members : goal.decode-requires-clause-members
decode-requires-clause-members c = rw c.members_at.ensures (struct_members_fit c.order.ensures.rules c.args.number)

-- values of the members of a struct are one of that struct
pub put_text-requires : goal.put_text-requires
put_text-requires c =
    told_fits_struct (values.Struct c.in-Ok.values) c.args.schema.now (types.Struct c.args.number) c.in-Ok.values refl
    ∙ (ap (fits_struct (map told c.in-Ok.values) c.args.schema.now) (outs-Struct c.args.number)
    ∙ subst (λ (members : List Member). fit_members c.args.schema.now members c.in-Ok.values ≡ true) c.members_at.ensures c.in-Ok.ensures.fits)
