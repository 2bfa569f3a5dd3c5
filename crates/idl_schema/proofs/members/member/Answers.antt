use Rattle.std.proofs.Common.{subst, sym}
use Rattle.idl_parse.specs.TreeSpans.{NumberIn}
use Rattle.idl_schema.specs.SchemaOf.{Place}
use Rattle.idl_schema.proofs.members.member.Goals as goal

pub tag-requires-clause-at : goal.tag-requires-clause-at
tag-requires-clause-at c = subst (λ (p : Place). NumberIn p.text c.args.member.now.tag) (sym c.place.view_is) c.requires.inside.tag
