-- What an event does, case by case.
use Rattle.std.proofs.Common.{◌≡◌, ◌⊎◌, inl, inr, ℕ, zero, suc, true, false, List, [], ◌∷◌, Option, Some, None, refl, sym, ap, ◌∙◌, subst}
use Rattle.std.specs.Prelude.{slice_get, nat_le, if◌then◌else◌}
use Rattle.script_session.specs.Sessions.{WIDTH, live_node}
use Rattle.script_session.specs.declared.session.CallSpec.{CallSpec}
use Rattle.script_session.specs.declared.report.Refusal.TheVariants as refusal
use Rattle.script_session.specs.declared.session.Session.{Session}
use Rattle.run_course.specs.Courses.{Link, Course, Desk, link_of, at_node, changed_at, in_flight, called, not_sent, refused_call, is_sent, serves, read_to, news, answers_stream, came, delivers, with_desk, delivered_at}
use Rattle.run_course.specs.Legal.{got_of, got_at}
use Rattle.run_course.proofs.Lists.{fold_keeps, same_or_other, of_cond}
use Rattle.run_course.proofs.Got.{desk_here, desk_there}

-- ---- what was got stays where a link changes otherwise

place_got : (k j : ℕ) (change : Link → Link) (links : List Link) → ((link : Link) → (change link).got ≡ link.got) → got_of (slice_get (changed_at k change links) j) ≡ got_of (slice_get links j)
place_got k j change [] same = refl
place_got zero zero change (link ∷ links) same = same link
place_got zero (suc j) change (link ∷ links) same = refl
place_got (suc k) zero change (link ∷ links) same = refl
place_got (suc k) (suc j) change (link ∷ links) same = place_got k j change links same

pub link_got : (k j : ℕ) (change : Link → Link) (links : List Link) → ((link : Link) → (change link).got ≡ link.got) → got_of (link_of j (at_node k change links)) ≡ got_of (link_of j links)
link_got zero j change links same = refl
link_got (suc k) zero change links same = refl
link_got (suc k) (suc j) change links same = place_got k j change links same

pub serves_got : (s : Session) (moment : ℕ) (bytes : Option ℕ) (link : Link) → (serves s moment bytes link).got ≡ link.got
unfolding serves
serves_got s moment bytes link = refl

-- ---- the cases of a call and of a delivery

pub called_by : (s : Session) (c : Course) (spec : CallSpec) (Q : Course → Type 0)
    → (nat_le WIDTH (in_flight spec.line c.calls) ≡ true → Q (not_sent c (refused_call spec None refusal.Full)))
    → (nat_le WIDTH (in_flight spec.line c.calls) ≡ false → c.closed ≡ true → Q (not_sent c (refused_call spec live_node (refusal.Closed 0))))
    → (nat_le WIDTH (in_flight spec.line c.calls) ≡ false → c.closed ≡ false → Q (is_sent s c spec)) → Q (called s c spec)
unfolding called
called_by s c spec Q full late sent =
    of_cond (nat_le WIDTH (in_flight spec.line c.calls)) Q (not_sent c (refused_call spec None refusal.Full))
    (if c.closed then not_sent c (refused_call spec live_node (refusal.Closed 0)) else is_sent s c spec)
    full
    (λ room. of_cond c.closed Q (not_sent c (refused_call spec live_node (refusal.Closed 0))) (is_sent s c spec) (late room) (sent room))

-- the desk before the first packet
abbrev pub begun : Course → Link → ℕ → Desk
begun c link to = record { calls = c.calls; link = record link { delivered = to } }

pub deliver_by : (s : Session) (c : Course) (node : ℕ) (bytes : Option ℕ) (Q : Course → Type 0) → Q c
    → ((link : Link) → link_of node c.links ≡ Some link → (to : ℕ) → Q (with_desk c node (begun c link to)))
    → ((link : Link) → link_of node c.links ≡ Some link → (d : Desk) (packet : List ℕ) → Q (with_desk c node d) → Q (with_desk c node (came s node d packet)))
    → Q (delivered_at s c node bytes (link_of node c.links))
unfolding delivers
deliver_by s c node bytes Q same begin come = go (link_of node c.links) refl
  where
    go : (o : Option Link) → link_of node c.links ≡ o → Q (delivered_at s c node bytes o)
    go None e = same
    go (Some link) e =
        fold_keeps (λ d. Q (with_desk c node d)) (came s node) (λ d packet holds. come link e d packet holds) (news link.delivered (read_to link.delivered bytes (answers_stream link)) (answers_stream link)) (begun c link (read_to link.delivered bytes (answers_stream link)))
        (begin link e (read_to link.delivered bytes (answers_stream link)))

pub begun_got : (c : Course) (node : ℕ) (link : Link) → link_of node c.links ≡ Some link → (to j : ℕ) → got_at (with_desk c node (begun c link to)) j ≡ got_at c j
begun_got c node link found to j = go (same_or_other j node)
  where
    go : (j ≡ node) ⊎ (j ≡ node → ⊥) → got_at (with_desk c node (begun c link to)) j ≡ got_at c j
    go (inl same) = subst (λ i. got_at (with_desk c node (begun c link to)) i ≡ got_at c i) (sym same) (desk_here c node link found (begun c link to) ∙ sym (ap got_of found))
    go (inr other) = desk_there c node j (begun c link to) other
