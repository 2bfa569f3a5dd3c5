use Rattle.tars_versions.proofs.CallerLemmas.{struct_is_version}
use Rattle.value_tables.proofs.versions.put_agreement.Goals as goal

pub compatible-requires-clause-old : goal.compatible-requires-clause-old
compatible-requires-clause-old c = rw c.members_at-old_members.ensures (struct_is_version c.order-old_order.ensures.rules c.args.old_number)

pub compatible-requires-clause-new : goal.compatible-requires-clause-new
compatible-requires-clause-new c = rw c.members_at-new_members.ensures (struct_is_version c.order-new_order.ensures.rules c.args.new_number)
