-- Each end of a call has its cause.
use Rattle.std.proofs.Common.{◌≡◌, ◌⊎◌, inl, inr, ℕ, suc, true, eqb, List, [], ◌∷◌, ◌++◌, length, map, Option, Some, None, refl, sym, ap, ◌∙◌, subst}
use Rattle.std.specs.Prelude.{slice_get}
use Rattle.std.proofs.lemmas.Bool.{eqb-true}
use Rattle.script_session.specs.declared.link_log.GotFate.TheVariants.{Used, Late}
use Rattle.script_session.specs.declared.link_log.GotRow.{GotRow}
use Rattle.rpc_packet.specs.Packets.{read_response}
use Rattle.rpc_packet.specs.declared.response.Response.{Response}
use Rattle.script_session.specs.declared.session.Session.{Session}
use Rattle.run_course.specs.Courses.{Fate, replied, closed, Life, Stage, refused, opened, Noted, Link, Course, Desk, link_of, with_desk, named_id, first_fate, ends_with, has_id, settled, settles, closes, is_late, is_used, came}
use Rattle.run_course.specs.Legal.{IsCallAt, got_at, CameFor, FateHasCause, HasCause}
use Rattle.run_course.proofs.Lists.{get_snoc, get_unmap, of_cond}
use Rattle.run_course.proofs.Got.{desk_here, desk_adds, came_by}

abbrev pub AllCaused : Session → Course → Type 0
AllCaused s c = (k : ℕ) (call : Noted) → IsCallAt c k call → HasCause s c call.stage

-- what was got, and that a session was closed, stay
pub record Grows (old new : Course) : Type 0 where
  pub got : (j k : ℕ) (r : GotRow) → slice_get (got_at old j) k ≡ Some r → slice_get (got_at new j) k ≡ Some r
  pub stays_closed : old.closed ≡ true → new.closed ≡ true

fate_grows : (s : Session) (old new : Course) → Grows old new → (id : ℕ) (fate : Option Fate) → FateHasCause s old id fate → FateHasCause s new id fate
fate_grows s old new grows id None cause = record {}
fate_grows s old new grows id (Some closed) cause = grows.stays_closed cause
fate_grows s old new grows id (Some (replied node packet r)) cause =
    record {
      bytes = cause.bytes;
      used = (cause.used.0, cause.used.1, grows.got node cause.used.0 _ cause.used.2);
      reads = cause.reads;
      names = cause.names;
    }

cause_grows : (s : Session) (old new : Course) → Grows old new → (stage : Stage) → HasCause s old stage → HasCause s new stage
cause_grows s old new grows (refused why) cause = record {}
cause_grows s old new grows (opened life) cause = fate_grows s old new grows life.id life.fate cause

-- the calls are as before
pub ends_same : (s : Session) (old new : Course) → Grows old new → new.calls ≡ old.calls → AllCaused s old → AllCaused s new
ends_same s old new grows calls all k call e = cause_grows s old new grows call.stage (all k call (sym (ap (λ xs. slice_get xs k) calls) ∙ e))

-- one more, which has no end yet
pub ends_more : (s : Session) (old new : Course) (last : Noted) → Grows old new → new.calls ≡ old.calls ++ last ∷ [] → HasCause s new last.stage → AllCaused s old → AllCaused s new
ends_more s old new last grows calls cause all k call e = go (get_snoc old.calls last call k (sym (ap (λ xs. slice_get xs k) calls) ∙ e))
  where
    go : (slice_get old.calls k ≡ Some call) ⊎ ((k ≡ length old.calls) × (last ≡ call)) → HasCause s new call.stage
    go (inl before) = cause_grows s old new grows call.stage (all k call before)
    go (inr at_last) = subst (λ (n : Noted). HasCause s new n.stage) at_last.1 cause

-- each changes in a way that keeps causes
pub ends_change : (s : Session) (old new : Course) (change : Stage → Stage) → Grows old new
    → new.calls ≡ map (λ (call : Noted). record call { stage = change call.stage }) old.calls
    → ((stage : Stage) → HasCause s new stage → HasCause s new (change stage)) → AllCaused s old → AllCaused s new
ends_change s old new change grows calls keeps all k call e = go (get_unmap (λ (n : Noted). record n { stage = change n.stage }) old.calls k call (sym (ap (λ xs. slice_get xs k) calls) ∙ e))
  where
    go : ((n : Noted) × (slice_get old.calls k ≡ Some n) × (call ≡ record n { stage = change n.stage })) → HasCause s new call.stage
    go found =
        subst (λ (n : Noted). HasCause s new n.stage) (sym found.2)
        (keeps found.0.stage (cause_grows s old new grows found.0.stage (all k found.0 found.1)))

first_cause : (s : Session) (c : Course) (id : ℕ) (fate : Fate) (before : Option Fate) → FateHasCause s c id (Some fate) → FateHasCause s c id before → FateHasCause s c id (first_fate fate before)
first_cause s c id fate None cause old = cause
first_cause s c id fate (Some before) cause old = old

pub settle_cause : (s : Session) (c : Course) (id : ℕ) (fate : Fate) → FateHasCause s c id (Some fate) → (stage : Stage) → HasCause s c stage → HasCause s c (settled id fate stage)
settle_cause s c id fate cause (refused why) old = record {}
settle_cause s c id fate cause (opened life) old =
    of_cond (eqb life.id id) (λ (stage : Stage). HasCause s c stage) (ends_with fate (opened life)) (opened life)
    (λ same. first_cause s c life.id fate life.fate (subst (λ i. FateHasCause s c i (Some fate)) (sym (eqb-true life.id id same)) cause) old)
    (λ other. old)

pub close_cause : (s : Session) (c : Course) → c.closed ≡ true → (stage : Stage) → HasCause s c stage → HasCause s c (ends_with closed stage)
close_cause s c is_closed (refused why) old = record {}
close_cause s c is_closed (opened life) old = first_cause s c life.id closed life.fate is_closed old

-- a packet comes
pub desk_caused : (s : Session) (c : Course) (node : ℕ) (link : Link) → link_of node c.links ≡ Some link → (d : Desk) (packet : List ℕ)
    → AllCaused s (with_desk c node d) → AllCaused s (with_desk c node (came s node d packet))
desk_caused s c node link found d packet all = came_by s node (λ e. AllCaused s (with_desk c node e)) d packet late used
  where
    late : AllCaused s (with_desk c node (is_late d packet))
    late =
        let adds = desk_adds c node link found d (is_late d packet) (record { packet = packet; fate = Late 0 }) refl in
        ends_same s (with_desk c node d) (with_desk c node (is_late d packet)) (record { got = adds.kept; stays_closed = λ e. e }) refl all

    cause : (r : Response) → read_response packet ≡ Some r
        → CameFor s (with_desk c node (is_used node d packet r)) (named_id r.id) node (suc (length d.link.got)) r
    cause r reads =
        let adds = desk_adds c node link found d (is_used node d packet r) (record { packet = packet; fate = Used (record { 0 = named_id r.id }) }) refl in
        record {
          bytes = packet;
          used = (length (got_at (with_desk c node d) node), ap (λ g. suc (length g)) (sym (desk_here c node link found d)), adds.last);
          reads = reads;
          names = refl;
        }

    used : (r : Response) → read_response packet ≡ Some r → Rattle.std.specs.List.list_any (Rattle.run_course.specs.Courses.is_open_under (named_id r.id)) d.calls ≡ true
        → AllCaused s (with_desk c node (is_used node d packet r))
    used r reads any =
        let adds = desk_adds c node link found d (is_used node d packet r) (record { packet = packet; fate = Used (record { 0 = named_id r.id }) }) refl in
        ends_change s (with_desk c node d) (with_desk c node (is_used node d packet r)) (settled (named_id r.id) (replied node (suc (length d.link.got)) r))
        (record { got = adds.kept; stays_closed = λ e. e }) refl
        (settle_cause s (with_desk c node (is_used node d packet r)) (named_id r.id) (replied node (suc (length d.link.got)) r) (cause r reads)) all
