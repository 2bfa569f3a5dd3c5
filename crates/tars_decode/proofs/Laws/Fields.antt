-- Fields one after the other, each with a fact of its contents.
use Rattle.std.proofs.Common.{◌≡◌, ◌<◌, ◌≤◌, ℕ, zero, suc, ◌+◌, false, List, Ok, refl, arith}
use Rattle.wire_words.specs.Tree.{WireValue, WireFields, no_fields, field}
use Rattle.tars_wire.specs.declared.wire_type.WireType.{WireType}
use Rattle.tars_wire.specs.declared.wire_type.WireType.TheVariants as wire
use Rattle.tars_wire.specs.Heads.{Head, short, long, is_end}
use Rattle.tars_wire.proofs.Walking.Prefixes.{head_prefix_is}
use Rattle.tars_decode.specs.ReadingSteps.{Past, end_turn_at, end_at}

pub data FieldsWith (Each : WireType → WireValue → List ℕ → List ℕ → Type 0) : ℕ → WireFields → List ℕ → List ℕ → Type 0 where
  none_with : {from : ℕ} {rest : List ℕ} → FieldsWith Each from no_fields rest rest
  one_with : {from tag : ℕ} {type : WireType} {v : WireValue} {fs : WireFields} {w following next rest : List ℕ} → Head tag type w following → from ≤ tag → is_end type ≡ false → Each type v following next → FieldsWith Each (tag + 1) fs next rest → FieldsWith Each from (field tag v fs) w rest

pub head_below : {tag : ℕ} {type : WireType} {w rest : List ℕ} → Head tag type w rest → tag < 256
head_below (short e below) = omega arith
head_below (long e below) = omega arith

end_step : (past : Past) (tag : ℕ) (type : WireType) (w following next rest : List ℕ) (k : ℕ) → Head tag type w following → is_end type ≡ false → past type following ≡ Ok next → end_at past k next ≡ Ok rest → end_at past (suc k) w ≡ Ok rest
unfolding end_at end_turn_at
end_step past tag type w following next rest k head inside goes later = rw (head_prefix_is head, inside, goes) later

end_here : (past : Past) (w rest : List ℕ) (k : ℕ) → Head 0 wire.StructEnd w rest → end_at past (suc k) w ≡ Ok rest
unfolding end_at end_turn_at
end_here past w rest k head = rw (head_prefix_is head) refl

-- the tags rise, so a struct's end comes within so many turns
pub end_law : {Each : WireType → WireValue → List ℕ → List ℕ → Type 0} {from : ℕ} {fs : WireFields} {w mid : List ℕ} → FieldsWith Each from fs w mid → (past : Past) → ((type : WireType) (v : WireValue) (following next : List ℕ) → Each type v following next → past type following ≡ Ok next) → (rest : List ℕ) → Head 0 wire.StructEnd mid rest → (k : ℕ) → 256 ≤ from + k → end_at past (suc k) w ≡ Ok rest
end_law {w = w} none_with past goes rest close k enough = end_here past w rest k close
end_law (one_with head above inside each more) past goes rest close zero enough = let b = head_below head in absurd (omega arith)
end_law {w = w} (one_with {tag = tag} {type = type} {v = v} {following = following} {next = next} head above inside each more) past goes rest close (suc k) enough =
    end_step past tag type w following next rest (suc k) head inside (goes type v following next each) (end_law more past goes rest close k (omega arith))
