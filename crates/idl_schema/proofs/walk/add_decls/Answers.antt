use Rattle.std.proofs.Common.{drop, subst, sym, ap, ◌∙◌, ◌+◌}
use Rattle.idl_schema.specs.Faultless.{CanAddAll}
use Rattle.idl_schema.specs.SchemaOf.{place_of, with_decl}
use Rattle.idl_schema.proofs.KeyCounts.{next_decl_few}
use Rattle.idl_schema.proofs.Walking.{left_is, walked_more, first_decl, rest_decls}
use Rattle.idl_schema.proofs.walk.add_decls.Goals as goal

pub add_decl-requires-clause-can : goal.add_decl-requires-clause-can
add_decl-requires-clause-can c =
    first_decl c.loop-decl.building.schema c.args.text.now c.args.home.now c.decl-item.result (drop (c.loop-decl.decl-index + 1) c.args.decls.now)
    (subst (CanAddAll c.loop-decl.building.schema c.args.text.now c.args.home.now) (left_is c.args.decls.now c.loop-decl.decl-index c.decl-item.result c.loop-decl-test.true c.decl-item.is) c.loop-decl.invariant.can)

pub loop-decl-preserved : goal.loop-decl-preserved
loop-decl-preserved c = record {
  made = c.in_ok-add_decl.ensures.made ∙ ap (λ d. with_decl (place_of d c.args.text.now c.args.home.now) c.decl-item.result) c.loop-decl.invariant.made
      ∙ sym (walked_more (λ d decl. with_decl (place_of d c.args.text.now c.args.home.now) decl) c.args.building.now.schema c.args.decls.now c.loop-decl.decl-index c.decl-item.result c.loop-decl-test.true c.decl-item.is);
  can = subst (λ d. CanAddAll d c.args.text.now c.args.home.now (drop (c.loop-decl.decl-index + 1) c.args.decls.now)) (sym c.in_ok-add_decl.ensures.made)
      (rest_decls c.loop-decl.building.schema c.args.text.now c.args.home.now c.decl-item.result (drop (c.loop-decl.decl-index + 1) c.args.decls.now)
      (subst (CanAddAll c.loop-decl.building.schema c.args.text.now c.args.home.now) (left_is c.args.decls.now c.loop-decl.decl-index c.decl-item.result c.loop-decl-test.true c.decl-item.is) c.loop-decl.invariant.can));
  few = next_decl_few c.args.text.now c.args.home.now c.loop-decl.building.schema _ c.args.decls.now c.loop-decl.decl-index c.decl-item.result c.loop-decl-test.true c.in_ok-add_decl.ensures.made c.loop-decl.invariant.few;
  named = c.in_ok-add_decl.ensures.named;
}
