-- A request that is prepared: its frame with the longest id and timeout is open.
use Rattle.std.proofs.Common.{◌≡◌, ◌∙◌, ◌≤◌, ◌+◌, ◌-◌, ◌^◌, ℕ, List, length, take, drop, min, Err, refl, sym, ap, subst, arith, length-append}
use Rattle.tars_frames.specs.Streams.{LENGTH_BYTES, LONGEST, framed}
use Rattle.wire_reading.specs.Readings.{AreBytes}
use Rattle.tars_model.specs.Declarations.{nothing_declared}
use Rattle.tars_model.specs.declared.member.Member.{Member}
use Rattle.tars_model.specs.declared.value.Value.{Value}
use Rattle.tars_codec.specs.Written.{written}
use Rattle.rpc_packet.specs.FrameParts.{OPEN_BYTES, front_of, middle_of, IsOpen}
use Rattle.rpc_packet.specs.Outcomes.{IsSendable, IsWithin}
use Rattle.rpc_packet.specs.Packets.{request_members, request_values, request_frame, read_request}
use Rattle.rpc_packet.specs.Prepared.{at_longest, or_empty, said_by}
use Rattle.rpc_packet.specs.declared.request.Request.{Request}
use Rattle.rpc_packet.specs.declared.write_refusal.WriteRefusal.{WriteRefusal}
use Rattle.rpc_packet.specs.declared.write_refusal.WriteRefusal.TheVariants.{TooLong, Memory}
use Rattle.rpc_packet.proofs.ComesBack.{request_comes_back}
use Rattle.rpc_packet.proofs.FrameSplit.{frame_splits}
use Rattle.rpc_packet.proofs.ValuesFit.{HasRequestNumbers}

-- ---- what is written, and how long its parts are

pub the_frame : (r : Request) (members : List Member) (values : List Value) → members ≡ request_members → values ≡ request_values r → framed (written nothing_declared members values) ≡ request_frame r
unfolding request_frame
the_frame r members values is_members is_values = rw (is_members, is_values) refl

pub front_told : (r : Request) (values : List Value) (n : ℕ) → values ≡ request_values r
    → n ≡ min (length (written nothing_declared (take 3 request_members) (take 3 values))) (2 ^ 64 - 1) → n ≡ min (length (front_of r)) (2 ^ 64 - 1)
unfolding front_of
front_told r values n is_values is = is ∙ rw is_values refl

pub middle_told : (r : Request) (values : List Value) (n : ℕ) → values ≡ request_values r
    → n ≡ min (length (written nothing_declared (take 3 (drop 4 request_members)) (take 3 (drop 4 values)))) (2 ^ 64 - 1) → n ≡ min (length (middle_of r)) (2 ^ 64 - 1)
unfolding middle_of
middle_told r values n is_values is = is ∙ rw is_values refl

-- a refusal for one thing is one for another
pub refused_alike : (A B : Type 0) (frame other : List ℕ) (why : WriteRefusal) → frame ≡ other → IsWithin {A = A} frame (Err why) → IsWithin {A = B} other (Err why)
refused_alike A B frame other (TooLong most) is refused = subst (λ (bytes : List ℕ). IsWithin {A = B} bytes (Err (TooLong most))) is refused
refused_alike A B frame other Memory is refused = tt

-- ---- the open frame

-- the parts are no longer than the frame
parts_within : (r : Request) → length (front_of r) + length (middle_of r) ≤ length (request_frame r)
unfolding framed
parts_within r = rw (frame_splits r) (simp length-append (omega arith))

module _ (r : Request) (numbers : HasRequestNumbers (at_longest r)) (sendable : IsSendable (at_longest r)) (longest : List ℕ) (is : longest ≡ request_frame (at_longest r))
    (bytes : AreBytes longest) (within : length longest ≤ LONGEST) where
  pub prepared_said : said_by longest ≡ at_longest r
  unfolding said_by
  prepared_said = ap or_empty (ap read_request is ∙ request_comes_back (at_longest r) numbers sendable (subst AreBytes is bytes))

  both_within : length (front_of (at_longest r)) + length (middle_of (at_longest r)) ≤ length longest
  both_within = rw is (parts_within (at_longest r))

  module _ (front middle : ℕ) (is_front : front ≡ min (length (front_of (at_longest r))) (2 ^ 64 - 1)) (is_middle : middle ≡ min (length (middle_of (at_longest r))) (2 ^ 64 - 1)) where
    pub front_small : front ≤ LONGEST
    front_small = omega (arith, is_front, both_within, within)

    pub middle_small : middle ≤ LONGEST
    middle_small = omega (arith, is_middle, both_within, within)

    pub prepared_open : IsOpen longest (LENGTH_BYTES + front) (LENGTH_BYTES + front + OPEN_BYTES + middle)
    prepared_open = record {
      frame = is ∙ ap request_frame (sym prepared_said);
      id = ap (λ (q : Request). q.id) prepared_said;
      timeout = ap (λ (q : Request). q.timeout) prepared_said;
      id_place = rw prepared_said (omega (arith, is_front, both_within, within));
      timeout_place = rw prepared_said (omega (arith, is_middle, both_within, within));
      within = within;
    }
