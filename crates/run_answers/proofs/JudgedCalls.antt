-- What loading judged of the calls of a script.
use Rattle.std.proofs.Common.{◌≡◌, ◌<◌, ◌≤◌, ℕ, zero, suc, Bool, true, false, List, [], ◌∷◌, length, take, Some, sym, subst, arith}
use Rattle.std.specs.Prelude.{slice_get}
use Rattle.std.specs.List.{AllByRecursion}
use Rattle.std.proofs.lemmas.List.Elements.{recursion_from_All}
use Rattle.std.proofs.lemmas.List.Sums.{count_by-le-length}
use Rattle.script_session.specs.Judged.{IDS, IsCall, IsEvent, IsJudged}
use Rattle.script_session.specs.declared.session.CallSpec.{CallSpec}
use Rattle.script_session.specs.declared.session.Event.{Event}
use Rattle.script_session.specs.declared.session.Event.TheVariants.{Call, Serve, Work, Deliver, Close}
use Rattle.script_session.specs.declared.session.Session.{Session}
use Rattle.run_course.specs.Courses.{Life, opened, Noted, is_opened}
use Rattle.run_course.specs.Planned.{ended}
use Rattle.run_course.specs.Legal.{IsCallAt, Scripted, scripted_after, scripted, IsAsScripted}
use Rattle.run_course.proofs.Lists.{some_same, none_some}
use Rattle.run_course.proofs.Openings.{as_scripted, id_after}

scripted_judged : (s : Session) (shut : Bool) (events : List Event) → AllByRecursion (IsEvent s) events → (k : ℕ) (text : Scripted) → slice_get (scripted_after shut events) k ≡ Some text → IsCall s text.spec
scripted_judged s shut [] all k text e = absurd (none_some text e)
scripted_judged s shut (Call spec ∷ events) all zero text e = subst (λ (t : Scripted). IsCall s t.spec) (some_same (record { spec = spec; closed = shut }) text e) all.0
scripted_judged s shut (Call spec ∷ events) all (suc k) text e = scripted_judged s shut events all.1 k text e
scripted_judged s shut (Serve node bytes ∷ events) all k text e = scripted_judged s shut events all.1 k text e
scripted_judged s shut (Work node ∷ events) all k text e = scripted_judged s shut events all.1 k text e
scripted_judged s shut (Deliver node bytes ∷ events) all k text e = scripted_judged s shut events all.1 k text e
scripted_judged s shut (Close ∷ events) all k text e = scripted_judged s true events all.1 k text e

scripted_before : (shut : Bool) (events : List Event) (k : ℕ) (text : Scripted) → slice_get (scripted_after shut events) k ≡ Some text → k < length events
scripted_before shut [] k text e = absurd (none_some text e)
scripted_before shut (Call spec ∷ events) zero text e = omega arith
scripted_before shut (Call spec ∷ events) (suc k) text e = let before = scripted_before shut events k text e in omega (arith, before)
scripted_before shut (Serve node bytes ∷ events) k text e = let before = scripted_before shut events k text e in omega (arith, before)
scripted_before shut (Work node ∷ events) k text e = let before = scripted_before shut events k text e in omega (arith, before)
scripted_before shut (Deliver node bytes ∷ events) k text e = let before = scripted_before shut events k text e in omega (arith, before)
scripted_before shut (Close ∷ events) k text e = let before = scripted_before true events k text e in omega (arith, before)

take_short : {X : Type 0} (k : ℕ) (xs : List X) → length (take k xs) ≤ k
take_short zero xs = omega arith
take_short (suc k) [] = omega arith
take_short (suc k) (x ∷ xs) = let short = take_short k xs in omega (arith, short)

-- a call that was sent, with its id
pub record IsSentCall (s : Session) (spec : CallSpec) (id : ℕ) : Type 0 where
  pub call : IsCall s spec
  pub small : id < IDS

pub sent_call : (s : Session) → IsJudged s → (k : ℕ) (call : Noted) (life : Life) → IsCallAt (ended s s.events) k call → call.stage ≡ opened life → IsSentCall s call.spec life.id
sent_call s judged k call life e is_opened_so =
    record {
      call = subst (λ (p : CallSpec). IsCall s p) (sym after.2.spec) (scripted_judged s false s.events (recursion_from_All (IsEvent s) s.events judged.events) k after.0 after.1);
      small = below life.id (length (take k (ended s s.events).calls)) k (length s.events) _ (id_after s s.events k call life e is_opened_so)
          (count_by-le-length (λ (n : Noted). is_opened n.stage) (take k (ended s s.events).calls)) (take_short k (ended s s.events).calls) (scripted_before false s.events k after.0 after.1) judged.few;
    }
  where
    after : (text : Scripted) × (slice_get (scripted s.events) k ≡ Some text) × IsAsScripted (ended s s.events) k call text
    after = as_scripted s s.events k call e

    below : (id most k events count : ℕ) → id ≡ suc count → count ≤ most → most ≤ k → k < events → events < IDS → id < IDS
    below id most k events count is few short before all = omega (arith, is, few, short, before, all)
