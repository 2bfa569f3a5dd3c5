-- The fronts of lists, and that the packets in a prefix of joined frames are frames, from the first on.
use Rattle.std.proofs.Common.{◌≡◌, ℕ, List, [], ◌++◌, take, drop, Option, Some, sym, ap, ◌∙◌}
use Rattle.std.specs.Prelude.{slice_get, filter_map}
use Rattle.std.specs.List.{AllByRecursion}
use Rattle.std.proofs.lemmas.List.{append-nil, take-append-drop}
use Rattle.std.proofs.lemmas.List.Elements.{filter_map-append}
use Rattle.tars_frames.specs.Streams.{LONGEST, IsPacket, joined}
use Rattle.tars_frames.specs.Cutting.{packets_of, rest_of}
use Rattle.tars_frames.proofs.Readings.{nothing_empty, packets_are, carried_on}
use Rattle.run_course.specs.Courses.{packets_to}
use Rattle.run_course.proofs.Lists.{get_append}

-- ---- the front of a list

abbrev pub IsFront : {X : Type 0} → List X → List X → Type 0
IsFront {X} xs whole = (more : List X) × (whole ≡ xs ++ more)

pub front_get : {X : Type 0} (xs whole : List X) (k : ℕ) (x : X) → IsFront xs whole → slice_get xs k ≡ Some x → slice_get whole k ≡ Some x
front_get xs whole k x front e = ap (λ ys. slice_get ys k) front.1 ∙ get_append xs front.0 k x e

pub front_filter : {X Y : Type 0} (f : X → Option Y) (xs whole : List X) → IsFront xs whole → IsFront (filter_map f xs) (filter_map f whole)
front_filter f xs whole front = (filter_map f front.0, ap (λ ys. filter_map f ys) front.1 ∙ filter_map-append f xs front.0)

-- ---- the packets in a prefix of joined frames are frames, from the first on

abbrev pub AreWhole : List (List ℕ) → Type 0
AreWhole frames = AllByRecursion (IsPacket LONGEST) frames

packets_joined : (frames : List (List ℕ)) → AreWhole frames → packets_of LONGEST (joined frames) ≡ frames
packets_joined frames all =
    packets_are LONGEST (joined frames) [] frames (record { bytes = sym (append-nil (joined frames)); whole = all; last = nothing_empty LONGEST })

pub packets_front : (at : ℕ) (frames : List (List ℕ)) → AreWhole frames → IsFront (packets_to at (joined frames)) frames
packets_front at frames all = (
  packets_of LONGEST (rest_of LONGEST (take at (joined frames)) ++ drop at (joined frames)),
  sym (packets_joined frames all) ∙ (ap (λ bytes. packets_of LONGEST bytes) (sym (take-append-drop at (joined frames))) ∙ (carried_on LONGEST (take at (joined frames)) (drop at (joined frames))).0),
)
