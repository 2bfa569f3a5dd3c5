-- Types of a schema have few levels, so that more levels change nothing.
use Rattle.std.proofs.Common.{◌≡◌, ◌<◌, ◌≤◌, ℕ, zero, suc, Bool, true, false, cond, ◌&&◌, not, eqb, List, [], ◌∷◌, Some, refl, ap, ◌∙◌, arith}
use Rattle.std.specs.List.{All}
use Rattle.std.proofs.lemmas.List.Elements.{All-head, All-tail}
use Rattle.tars_model.specs.Declarations.{Declared, members_at}
use Rattle.tars_model.specs.Schemas.{IsSchema, IsTypeIn}
use Rattle.tars_model.specs.Types.{TyLayer, type_depth, depths_of}
use Rattle.tars_model.specs.Values.{is_byte}
use Rattle.tars_model.specs.declared.member.Member.{Member}
use Rattle.tars_model.specs.declared.ty.Ty.{Ty, out-Ty}
use Rattle.tars_model.specs.declared.ty.Ty.TheOpen as ty
use Rattle.tars_versions.specs.Agreement.{Agreeing, mismatch, at_step, both, member_with, member_agrees, members_agree, elements_agree, entries_agree, agree_by, agree_within, MAX_LEVELS, agrees}
use Rattle.tars_versions.proofs.SchemaTypes.{depth_at, greater_bounds, AreAllPlaced, all_placed}

module _ (d d' : Declared) where
  -- two ways to tell agreement that are the same on types of fewer levels
  abbrev SameBelow : ℕ → Agreeing → Agreeing → Type 0
  SameBelow levels inner other = (t t' : Ty) → type_depth (depths_of d.structs) t < levels → inner t t' ≡ other t t'

  module _ (levels : ℕ) (inner other : Agreeing) (same : SameBelow levels inner other) where
    abbrev IsBelow : Member → Type 0
    IsBelow m = type_depth (depths_of d.structs) m.ty < levels

    elements_same : (of of' : Ty) → type_depth (depths_of d.structs) of < levels → elements_agree inner of of' ≡ elements_agree other of of'
    elements_same of of' lt = ap (λ a. cond (is_byte (out-Ty of) && not (is_byte (out-Ty of'))) mismatch (at_step 0 a)) (same of of' lt)

    entries_same : (key to key' to' : Ty) → type_depth (depths_of d.structs) key < levels → type_depth (depths_of d.structs) to < levels → entries_agree inner key to key' to' ≡ entries_agree other key to key' to'
    entries_same key to key' to' lt_key lt_to =
        ap (λ a. both (at_step 0 a) (at_step 1 (inner to to'))) (same key key' lt_key) ∙ ap (λ a. both (at_step 0 (other key key')) (at_step 1 a)) (same to to' lt_to)

    member_same : (tag : ℕ) (ms : List Member) (m' : Member) → All IsBelow ms → member_agrees inner (member_with tag ms) m' ≡ member_agrees other (member_with tag ms) m'
    member_same tag [] m' below = refl
    member_same tag (m ∷ ms) m' below =
        either (eqb m.tag tag) (ap (at_step m'.tag) (same m.ty m'.ty (All-head IsBelow m ms below))) (member_same tag ms m' (All-tail IsBelow m ms below))
      where
        either : (b : Bool) → at_step m'.tag (inner m.ty m'.ty) ≡ at_step m'.tag (other m.ty m'.ty) → member_agrees inner (member_with tag ms) m' ≡ member_agrees other (member_with tag ms) m'
            → member_agrees inner (cond b (Some m) (member_with tag ms)) m' ≡ member_agrees other (cond b (Some m) (member_with tag ms)) m'
        either true here later = here
        either false here later = later

    members_same : (ms ms' : List Member) → All IsBelow ms → members_agree inner ms ms' ≡ members_agree other ms ms'
    members_same ms [] below = refl
    members_same ms (m' ∷ ms') below =
        ap (λ a. both a (members_agree inner ms ms')) (member_same m'.tag ms m' below) ∙ ap (both (member_agrees other (member_with m'.tag ms) m')) (members_same ms ms' below)

    layers_same : AreAllPlaced d → (t : Ty) → type_depth (depths_of d.structs) t ≤ levels → (l l' : TyLayer) → out-Ty t ≡ l → agree_by inner d d' l l' ≡ agree_by other d d' l l'
    layers_same placed t few ty.Text ty.Text is = refl
    layers_same placed t few (ty.Vector of) (ty.Vector of') is = let e = depth_at (depths_of d.structs) t (ty.Vector of) is in elements_same of of' (omega arith)
    layers_same placed t few (ty.Map key to) (ty.Map key' to') is =
        let e = depth_at (depths_of d.structs) t (ty.Map key to) is in
        let bounds = greater_bounds (type_depth (depths_of d.structs) key) (type_depth (depths_of d.structs) to) in
        entries_same key to key' to' (omega arith) (omega arith)
    layers_same placed t few (ty.Struct number) (ty.Struct number') is =
        let e = depth_at (depths_of d.structs) t (ty.Struct number) is in
        members_same (members_at d number) (members_at d' number') (λ k m within. let p = placed number k m within in let less = p.less in omega arith)
    layers_same placed t few _ _ is = refl

  level_more : AreAllPlaced d → (levels : ℕ) (t t' : Ty) → type_depth (depths_of d.structs) t < levels → agree_within levels d d' t t' ≡ agree_within (suc levels) d d' t t'
  unfolding agree_within
  level_more placed zero t t' few = absurd (omega arith)
  level_more placed (suc levels) t t' few =
      layers_same levels (agree_within levels d d') (agree_within (suc levels) d d') (level_more placed levels) placed t (omega arith) (out-Ty t) (out-Ty t') refl

  rules_at : AreAllPlaced d → (levels : ℕ) (t t' : Ty) → type_depth (depths_of d.structs) t < levels → agree_within levels d d' t t' ≡ agree_by (agree_within levels d d') d d' (out-Ty t) (out-Ty t')
  unfolding agree_within
  rules_at placed levels t t' few = level_more placed levels t t' few

pub agreement_by_rules : (d d' : Declared) (t t' : Ty) → IsSchema d → IsTypeIn d t → agrees d d' t t' ≡ agree_by (agrees d d') d d' (out-Ty t) (out-Ty t')
agreement_by_rules d d' t t' schema type = let most = type.bounded in rules_at d d' (all_placed schema) MAX_LEVELS t t' (omega arith)
