-- What a call table has of the calls that were opened, in the order in which they were opened.
use Rattle.std.specs.Prelude.{ℕ, suc, Bool, false, not, ◌&&◌, ◌==◌, nat_le, if◌then◌else◌, Option, Some, None, List, length, map, count_by, filter_map}
use Rattle.std.specs.List.{list_any}
use Rattle.script_session.specs.Sessions.{WIDTH}
use Rattle.script_session.specs.declared.link_log.GotFate.{GotFate}
use Rattle.script_session.specs.declared.link_log.GotFate.TheVariants.{Used, Late}
use Rattle.tars_model.specs.Ranges.{IsInt}
use Rattle.rpc_packet.specs.Outcomes.{IsAnswerable}
use Rattle.rpc_packet.specs.declared.response.Response.{Response}
use Rattle.run_course.specs.Courses as course
use Rattle.run_course.specs.Courses.{Life, Stage, refused, opened, Noted, first_fate, named_id}
use Rattle.run_engine.specs.declared.fate.Fate.{Fate}
use Rattle.run_engine.specs.declared.fate.Fate.TheVariants.{Replied, Closed}

-- what is known of a response that was read of a packet
pub record IsReply (r : Response) : Type 0 where
  pub fields : IsAnswerable r
  pub ret : IsInt r.ret

abbrev pub FateFits : Fate → Type 0
FateFits (Replied node packet response) = IsReply response
FateFits Closed = Unit {0}

abbrev pub MayFit : Option Fate → Type 0
MayFit None = Unit {0}
MayFit (Some fate) = FateFits fate

-- a call that was opened by a line
pub record Claim : Type 0 where
  pub line : ℕ
  pub life : Life

abbrev pub claim_of_stage : ℕ → Stage → Option Claim
claim_of_stage line (refused why) = None
claim_of_stage line (opened life) = Some (record { line = line; life = life })

abbrev pub claim_of : Noted → Option Claim
claim_of call = claim_of_stage call.spec.line call.stage

abbrev pub claims_of : List Noted → List Claim
claims_of calls = filter_map claim_of calls

-- so many calls of the line are in flight as its width
abbrev pub is_full : ℕ → List Claim → Bool
is_full line claims = nat_le WIDTH (count_by (λ (claim : Claim). not claim.life.collected && (claim.line == line)) claims)

-- a call that is opened under the next id
abbrev pub opened_claim : List Claim → ℕ → ℕ → ℕ → Claim
opened_claim claims line node deadline =
    record { line = line; life = record { id = suc (length claims); node = node; deadline = deadline; fate = None; collected = false } }

-- what ended a call, as the definition of a run has it
abbrev pub told : Fate → course.Fate
told (Replied node packet response) = course.replied node packet response
told Closed = course.closed

abbrev pub is_open_claim : ℕ → Claim → Bool
is_open_claim id claim = (claim.life.id == id) && course.is_open (opened claim.life)

-- what ends a call first stands
abbrev pub ended : course.Fate → Claim → Claim
ended fate claim = record claim { life = record claim.life { fate = first_fate fate claim.life.fate } }

abbrev pub settled_claim : ℕ → course.Fate → Claim → Claim
settled_claim id fate claim = if claim.life.id == id then ended fate claim else claim

abbrev pub fate_of : Claim → Option course.Fate
fate_of claim = claim.life.fate

-- an end settles the call that is open under an id, if there is one
abbrev pub settled_claims : ℕ → course.Fate → List Claim → List Claim
settled_claims id fate claims = if list_any (is_open_claim id) claims then map (settled_claim id fate) claims else claims

-- what becomes of a reply: it is used where a call is open under the id that it names, else it is late
abbrev pub fate_of_reply : Option Response → List Claim → GotFate
fate_of_reply None claims = Late 0
fate_of_reply (Some r) claims = if list_any (is_open_claim (named_id r.id)) claims then Used (record { 0 = named_id r.id }) else Late 0

-- the calls after a reply
abbrev pub claims_after : ℕ → ℕ → Option Response → List Claim → List Claim
claims_after node packet None claims = claims
claims_after node packet (Some r) claims = settled_claims (named_id r.id) (course.replied node packet r) claims
