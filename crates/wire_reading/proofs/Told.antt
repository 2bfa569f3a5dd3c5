-- All lists of numbers can be told: they are a body with its fields, or none, with its fault.
use Rattle.std.proofs.Common.{◌≡◌, ◌<◌, ◌≤◌, ◌⊎◌, inl, inr, ℕ, Bool, true, false, ltb, List, [], ◌∷◌, refl, arith}
use Rattle.std.specs.List.{AllByRecursion}
use Rattle.std.proofs.lemmas.List.Elements.{recursion_from_All}
use Rattle.std.proofs.lemmas.Bool.{ltb-true, ltb-false}
use Rattle.tars_wire.specs.Faults.{HasFault}
use Rattle.tars_wire.specs.Spelled.{IsBody}
use Rattle.tars_wire.proofs.Machine.Faults.{some_outcome}
use Rattle.tars_wire.specs.declared.wire_fault.WireWhy.TheVariants.{Short}
use Rattle.wire_reading.specs.Readings.{Reading, body, no_body}

abbrev Small : List ℕ → Type 0
Small bytes = AllByRecursion (λ byte. byte < 256) bytes

too_large : (byte : ℕ) → 256 ≤ byte → byte < 256 → ⊥
too_large byte large small = absurd (omega arith)

small_or_not : (bytes : List ℕ) → Small bytes ⊎ (Small bytes → ⊥)
small_or_not [] = inl (record {})
small_or_not (byte ∷ bytes) = first (ltb byte 256) refl (small_or_not bytes)
  where
    later : byte < 256 → (Small bytes ⊎ (Small bytes → ⊥)) → Small (byte ∷ bytes) ⊎ (Small (byte ∷ bytes) → ⊥)
    later small (inl others) = inl (small, others)
    later small (inr no_more) = inr (λ all. no_more all.1)

    first : (b : Bool) → ltb byte 256 ≡ b → (Small bytes ⊎ (Small bytes → ⊥)) → Small (byte ∷ bytes) ⊎ (Small (byte ∷ bytes) → ⊥)
    first true e rest = later (ltb-true byte 256 e) rest
    first false e rest = inr (λ all. too_large byte (ltb-false byte 256 e) all.0)

of_outcome : (bytes : List ℕ) → IsBody bytes ⊎ HasFault bytes → Reading bytes
of_outcome bytes (inl is_body) = body is_body.fields is_body.spelled
of_outcome bytes (inr fault) = no_body fault.0 (λ small. fault.1)

pub told : (bytes : List ℕ) → Reading bytes
told bytes = go (small_or_not bytes)
  where
    go : Small bytes ⊎ (Small bytes → ⊥) → Reading bytes
    go (inl small) = of_outcome bytes (some_outcome bytes small)
    -- of what are no bytes nothing is claimed
    go (inr not_small) = no_body (record { at = 0; why = Short }) (λ small. absurd (not_small (recursion_from_All (λ byte. byte < 256) bytes small)))
