-- The calls that are sent to a node, each under its id.
use Rattle.std.proofs.Common.{◌≡◌, ℕ, zero, suc, Bool, true, false, cond, eqb, List, [], ◌∷◌, map, Option, Some, None, refl, sym, ap, ◌∙◌}
use Rattle.std.specs.Prelude.{slice_get, filter_map}
use Rattle.std.specs.List.{cons_option}
use Rattle.rpc_packet.specs.Packets.{request_frame}
use Rattle.rpc_packet.specs.declared.request.Request.{Request}
use Rattle.script_session.specs.Sessions.{request_of}
use Rattle.script_session.specs.declared.link_log.SentRow.{SentRow}
use Rattle.script_session.specs.declared.session.CallSpec.{CallSpec}
use Rattle.script_session.specs.declared.session.Session.{Session}
use Rattle.run_course.specs.Courses.{Life, Stage, refused, opened, Noted, sent_row}
use Rattle.run_course.specs.Planned.{ended}
use Rattle.run_course.specs.Legal.{IsCallAt, sent_of_stage, sent_of}
use Rattle.run_course.proofs.Lists.{some_same, none_some}

-- a call that is sent under an id
pub record Sending : Type 0 where
  pub spec : CallSpec
  pub id : ℕ

abbrev pub sending_of_stage : ℕ → CallSpec → Stage → Option Sending
sending_of_stage node spec (refused why) = None
sending_of_stage node spec (opened life) = cond (eqb life.node node) (Some (record { spec = spec; id = life.id })) None

-- at a node
abbrev pub sending_of : ℕ → Noted → Option Sending
sending_of node call = sending_of_stage node call.spec call.stage

abbrev pub sending_row : Session → Sending → SentRow
sending_row s x = sent_row s x.spec x.id

abbrev pub sending_request : Session → Sending → Request
sending_request s x = request_of s x.spec x.id

one_row : (s : Session) (node : ℕ) (spec : CallSpec) (stage : Stage) (rows : List SentRow) (xs : List Sending) → rows ≡ map (sending_row s) xs
    → cons_option (sent_of_stage s node spec stage) rows ≡ map (sending_row s) (cons_option (sending_of_stage node spec stage) xs)
one_row s node spec (refused why) rows xs same = same
one_row s node spec (opened life) rows xs same = by_test (eqb life.node node)
  where
    by_test : (b : Bool) → cons_option (cond b (Some (sent_row s spec life.id)) None) rows ≡ map (sending_row s) (cons_option (cond b (Some (record { spec = spec; id = life.id })) None) xs)
    by_test true = ap (λ rs. sent_row s spec life.id ∷ rs) same
    by_test false = same

pub same_rows : (s : Session) (node : ℕ) (calls : List Noted) → filter_map (sent_of s node) calls ≡ map (sending_row s) (filter_map (sending_of node) calls)
same_rows s node [] = refl
same_rows s node (c ∷ calls) = one_row s node c.spec c.stage (filter_map (sent_of s node) calls) (filter_map (sending_of node) calls) (same_rows s node calls)

pub row_frames : (s : Session) (xs : List Sending) → map (λ (row : SentRow). row.frame) (map (sending_row s) xs) ≡ map request_frame (map (sending_request s) xs)
row_frames s [] = refl
row_frames s (x ∷ xs) = ap (λ frames. request_frame (sending_request s x) ∷ frames) (row_frames s xs)

pub filter_get : {X Y : Type 0} (f : X → Option Y) (xs : List X) (j : ℕ) (y : Y) → slice_get (filter_map f xs) j ≡ Some y → (k : ℕ) × (x : X) × (slice_get xs k ≡ Some x) × (f x ≡ Some y)
filter_get f [] j y e = absurd (none_some y e)
filter_get {X} {Y} f (x ∷ xs) j y e = by_case (f x) refl j e (λ i g. filter_get f xs i y g)
  where
    later : (k : ℕ) × (z : X) × (slice_get xs k ≡ Some z) × (f z ≡ Some y) → (k : ℕ) × (z : X) × (slice_get (x ∷ xs) k ≡ Some z) × (f z ≡ Some y)
    later found = (suc found.0, found.1, found.2, found.3)

    by_case : (o : Option Y) → f x ≡ o → (i : ℕ) → slice_get (cons_option o (filter_map f xs)) i ≡ Some y
        → ((m : ℕ) → slice_get (filter_map f xs) m ≡ Some y → (k : ℕ) × (z : X) × (slice_get xs k ≡ Some z) × (f z ≡ Some y))
        → (k : ℕ) × (z : X) × (slice_get (x ∷ xs) k ≡ Some z) × (f z ≡ Some y)
    by_case None is i g others = later (others i g)
    by_case (Some w) is zero g others = (0, x, refl, is ∙ g)
    by_case (Some w) is (suc i) g others = later (others i g)

pub opened_sending : (node : ℕ) (spec : CallSpec) (stage : Stage) (x : Sending) → sending_of_stage node spec stage ≡ Some x → (life : Life) × (stage ≡ opened life) × (x ≡ record { spec = spec; id = life.id })
opened_sending node spec (refused why) x e = absurd (none_some x e)
opened_sending node spec (opened life) x e = (life, refl, by_test (eqb life.node node) e)
  where
    by_test : (b : Bool) → cond b (Some (record { spec = spec; id = life.id })) None ≡ Some x → x ≡ record { spec = spec; id = life.id }
    by_test true e = sym (some_same (record { spec = spec; id = life.id }) x e)
    by_test false e = absurd (none_some x e)

-- the call that is sent
pub record IsSendingOf (s : Session) (x : Sending) : Type 0 where
  pub place : ℕ
  pub call : Noted
  pub life : Life
  pub call_is : IsCallAt (ended s s.events) place call
  pub opened_so : call.stage ≡ opened life
  pub is : x ≡ record { spec = call.spec; id = life.id }
