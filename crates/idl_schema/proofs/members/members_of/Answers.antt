use Rattle.std.proofs.Common.{sym, ap, ◌∙◌}
use Rattle.idl_schema.specs.SchemaOf.{put_member, member_of}
use Rattle.idl_schema.proofs.InsertLaws.{order_more}
use Rattle.idl_schema.proofs.members.members_of.Goals as goal

pub loop-tree-preserved : goal.loop-tree-preserved
loop-tree-preserved c =
    c.in_ok-put.ensures ∙ ap (λ m. put_member m c.loop-tree.members.items) c.in_ok-m.ensures ∙ ap (put_member (member_of c.args.place.now c.tree-item.result)) c.loop-tree.invariant
    ∙ sym (order_more c.args.place.now c.args.trees.now c.loop-tree.tree-index c.tree-item.result c.loop-tree-test.true c.tree-item.is)
