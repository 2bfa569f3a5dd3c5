-- Members take the same from fields that say the same.
use Rattle.std.proofs.Common.{◌≡◌, ℕ, Bool, true, false, cond, eqb, List, [], ◌∷◌, Option, Some, None, Ok, refl, ap, ◌∙◌}
use Rattle.facts.specs.ResultSteps.{◌>>=◌}
use Rattle.tars_model.specs.declared.member.Member.{Member}
use Rattle.tars_model.specs.declared.ty.Ty.{Ty}
use Rattle.tars_model.specs.declared.value.Value.{Value}
use Rattle.tars_decode.specs.Reads.{Read, Saying, in_step, said_under, member_of, members_of}

-- the same tags, one after the other, and the same said under every type
abbrev pub Agree : List Saying → List Saying → Type 0
Agree [] [] = Unit {0}
Agree (s ∷ ss) (o ∷ os) = (s.0 ≡ o.0) × ((t : Ty) → s.1 t ≡ o.1 t) × Agree ss os
Agree _ _ = ⊥

-- nothing is said in both, or the same
abbrev AgreeAt : Option (Ty → Read Value) → Option (Ty → Read Value) → Type 0
AgreeAt None None = Unit {0}
AgreeAt (Some f) (Some g) = (t : Ty) → f t ≡ g t
AgreeAt _ _ = ⊥

chosen_agree : (a b : Bool) (f g : Ty → Read Value) (o p : Option (Ty → Read Value)) → a ≡ b → ((t : Ty) → f t ≡ g t) → AgreeAt o p → AgreeAt (cond a (Some f) o) (cond b (Some g) p)
chosen_agree true true f g o p same here later = here
chosen_agree false false f g o p same here later = later
chosen_agree true false f g o p same here later = absurd cc
chosen_agree false true f g o p same here later = absurd cc

said_agree : (tag : ℕ) (ss os : List Saying) → Agree ss os → AgreeAt (said_under tag ss) (said_under tag os)
said_agree tag [] [] agree = tt
said_agree tag [] (o ∷ os) agree = absurd agree
said_agree tag (s ∷ ss) [] agree = absurd agree
said_agree tag (s ∷ ss) (o ∷ os) agree =
    chosen_agree (eqb s.0 tag) (eqb o.0 tag) s.1 o.1 (said_under tag ss) (said_under tag os) (ap (λ n. eqb n tag) agree.0) agree.1 (said_agree tag ss os agree.2)

member_agrees : (m : Member) (o p : Option (Ty → Read Value)) → AgreeAt o p → member_of m o ≡ member_of m p
member_agrees m None None agree = refl
member_agrees m None (Some g) agree = absurd agree
member_agrees m (Some f) None agree = absurd agree
member_agrees m (Some f) (Some g) agree = ap (in_step m.tag) (agree m.ty)

one_more : Read Value → Read (List Value) → Read (List Value)
one_more first others = first >>= λ x. others >>= λ xs. Ok (x ∷ xs)

pub members_agree : (ms : List Member) (ss os : List Saying) → Agree ss os → members_of ms ss ≡ members_of ms os
unfolding one_more
members_agree [] ss os agree = refl
members_agree (m ∷ ms) ss os agree =
    ap (λ first. one_more first (members_of ms ss)) (member_agrees m (said_under m.tag ss) (said_under m.tag os) (said_agree m.tag ss os agree))
    ∙ ap (one_more (member_of m (said_under m.tag os))) (members_agree ms ss os agree)
