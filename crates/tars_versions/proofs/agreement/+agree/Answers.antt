use Rattle.std.proofs.Common.{sym, ap, ◌∙◌, subst, arith}
use Rattle.std.proofs.lemmas.Result.{err_from_is_err_and}
use Rattle.tars_model.specs.Members.{HaveRisingTags}
use Rattle.tars_decode.proofs.CallerLemmas.{struct_members_fit}
use Rattle.tars_versions.specs.Agreement.{differ, agree_within, members_agree}
use Rattle.tars_versions.specs.AgreementSteps.{Tells}
use Rattle.tars_versions.proofs.Lengths.{room_for_step, one_level_less, no_level}
use Rattle.tars_versions.proofs.Merging.{goes_on, fails}
use Rattle.tars_versions.proofs.agreement.+agree.Goals as goal

pub elements_agree-in_step-requires : goal.elements_agree-in_step-requires
elements_agree-in_step-requires t c =
    room_for_step c.types_agree.result c.args.levels c.args.versions.now.old.now c.args.versions.now.new.now c.args.old.now c.args.new.now (omega arith) c.types_agree.ensures

pub kinds_agree-in_step-requires : goal.kinds_agree-in_step-requires
kinds_agree-in_step-requires t c =
    room_for_step c.types_agree-keys.result c.args.levels c.args.versions.now.old.now c.args.versions.now.new.now c.get-in-Map-Map.result.now c.get-in-Map-Map-2.result.now (omega arith) c.types_agree-keys.ensures

pub kinds_agree-in_step-requires-in-Map-Map : goal.kinds_agree-in_step-requires-in-Map-Map
kinds_agree-in_step-requires-in-Map-Map t c =
    room_for_step c.types_agree-values.result c.args.levels c.args.versions.now.old.now c.args.versions.now.new.now c.get-in-Map-Map-3.result.now c.get-in-Map-Map-4.result.now (omega arith) c.types_agree-values.ensures

pub member_agrees-in_step-requires : goal.member_agrees-in_step-requires
member_agrees-in_step-requires t c =
    room_for_step c.types_agree.result c.args.levels c.args.versions.now.old.now c.args.versions.now.new.now c.old-item.result.ty c.args.new.now.ty (omega arith) c.types_agree.ensures

pub members_agree-returns-in_err-member_agrees : goal.members_agree-returns-in_err-member_agrees
members_agree-returns-in_err-member_agrees t c =
    let p = err_from_is_err_and c.from_residual.result c.from_residual.ensures.1 in
    let inner = agree_within c.args.levels c.args.versions.now.old.now c.args.versions.now.new.now in
    rw (p.1, p.2) (fails inner c.loop-member.left.now c.args.new.now (members_agree inner c.args.old.now c.args.new.now) c.loop-member.member-index c.member-item.result c.from_tag-left.result.now c.in_err-member_agrees.field-0.0 c.from_tag-left.ensures c.loop-member-test.true c.member-item.is c.loop-member.invariant c.in_err-member_agrees.ensures)

pub members_agree-loop-member-preserved : goal.members_agree-loop-member-preserved
members_agree-loop-member-preserved t c =
    let inner = agree_within c.args.levels c.args.versions.now.old.now c.args.versions.now.new.now in
    goes_on inner c.loop-member.left.now c.args.new.now (members_agree inner c.args.old.now c.args.new.now) c.loop-member.member-index c.member-item.result c.from_tag-left.result.now c.from_tag-left.ensures c.loop-member-test.true c.member-item.is c.loop-member.invariant c.in_ok-member_agrees.ensures

pub structs_agree-members_agree-requires : goal.structs_agree-members_agree-requires
structs_agree-members_agree-requires t c =
    let old = (struct_members_fit c.order-old_order.ensures.rules c.args.old).rising in
    let new = (struct_members_fit c.order-new_order.ensures.rules c.args.new).rising in
    (omega arith, (omega arith, (subst HaveRisingTags (sym c.members_at.ensures) old, subst HaveRisingTags (sym c.members_at-2.ensures) new)))

pub types_agree-returns-then-levels-eq0 : goal.types_agree-returns-then-levels-eq0
types_agree-returns-then-levels-eq0 t c =
    no_level c.args.levels c.args.versions.now.old.now c.args.versions.now.new.now c.args.old.now c.args.new.now c.if-levels-eq0.true ∙ ap differ (sym c.here.ensures)

pub types_agree-returns : goal.types_agree-returns
types_agree-returns t c =
    subst (Tells c.kinds_agree.result) (one_level_less c.args.levels c.args.versions.now.old.now c.args.versions.now.new.now c.args.old.now c.args.new.now (omega arith)) c.kinds_agree.ensures
