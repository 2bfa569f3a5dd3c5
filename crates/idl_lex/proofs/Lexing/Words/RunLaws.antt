-- Runs of bytes of one class.
use Rattle.std.proofs.Common.{◌≡◌, ℕ, ◌+◌, ◌<◌, Bool, true, List, [], ◌∷◌, ◌++◌, length, take, drop, refl, sym, ap, ◌∙◌, inl, inr, arith, length-append}
use Rattle.std.proofs.lemmas.Bool.{cases_Bool, and_parts}
use Rattle.std.proofs.lemmas.List.{nil_from_length}
use Rattle.std.proofs.Math.Numerals.{one-add}
use Rattle.std.specs.List.{prefix_len, list_all}
use Rattle.idl_lex.specs.Bytes.{is_feed, begins}
use Rattle.idl_lex.specs.LexSteps.{from_feed, run, after_run, is_in}
use Rattle.idl_lex.specs.declared.runs.Class.TheVariants.{Line}

pub take_is_run : (test : ℕ → Bool) (bytes : List ℕ) → take (prefix_len test bytes) bytes ≡ run test bytes
take_is_run test [] = refl
take_is_run test (b ∷ rest) =
    elim (cases_Bool (test b)) [
      | inl passes ↦ rw (passes, one-add) (ap (λ (t : List ℕ). b ∷ t) (take_is_run test rest))
      | inr other ↦ rw other refl
    ]

pub drop_is_after : (test : ℕ → Bool) (bytes : List ℕ) → drop (prefix_len test bytes) bytes ≡ after_run test bytes
drop_is_after test [] = refl
drop_is_after test (b ∷ rest) =
    elim (cases_Bool (test b)) [
      | inl passes ↦ rw (passes, one-add) (drop_is_after test rest)
      | inr other ↦ rw other refl
    ]

pub ruleset runs = (take_is_run, drop_is_after)

pub from_feed_is : (bytes : List ℕ) → from_feed bytes ≡ after_run (is_in Line) bytes
from_feed_is [] = refl
from_feed_is (b ∷ rest) =
    elim (cases_Bool (is_feed b)) [
      | inl feed ↦ rw feed refl
      | inr other ↦ rw other (from_feed_is rest)
    ]

-- a run and what stands after it are all
pub run_whole : (test : ℕ → Bool) (bytes : List ℕ) → run test bytes ++ after_run test bytes ≡ bytes
run_whole test [] = refl
run_whole test (b ∷ rest) =
    elim (cases_Bool (test b)) [
      | inl passes ↦ rw passes (ap (λ (t : List ℕ). b ∷ t) (run_whole test rest))
      | inr other ↦ rw other refl
    ]

-- each byte of a run passes
pub run_passes : (test : ℕ → Bool) (bytes : List ℕ) → list_all test (run test bytes) ≡ true
run_passes test [] = refl
run_passes test (b ∷ rest) =
    elim (cases_Bool (test b)) [
      | inl passes ↦ rw passes (rw passes (run_passes test rest))
      | inr other ↦ rw other refl
    ]

-- a run goes over a word of which each byte passes
pub run_over : (test : ℕ → Bool) (word rest : List ℕ) → list_all test word ≡ true → run test (word ++ rest) ≡ word ++ run test rest
run_over test [] rest all = refl
run_over test (b ∷ word) rest all =
    let parts = and_parts (test b) (list_all test word) all in
    rw parts.0 (ap (λ (t : List ℕ). b ∷ t) (run_over test word rest parts.1))

pub after_over : (test : ℕ → Bool) (word rest : List ℕ) → list_all test word ≡ true → after_run test (word ++ rest) ≡ after_run test rest
after_over test [] rest all = refl
after_over test (b ∷ word) rest all =
    let parts = and_parts (test b) (list_all test word) all in
    rw parts.0 (after_over test word rest parts.1)

pub after_within : (test : ℕ → Bool) (bytes : List ℕ) → length (run test bytes) + length (after_run test bytes) ≡ length bytes
after_within test bytes = sym (length-append (run test bytes) (after_run test bytes)) ∙ ap length (run_whole test bytes)

-- nothing was passed
pub run_none : (test : ℕ → Bool) (bytes : List ℕ) → length (after_run test bytes) ≡ length bytes → run test bytes ≡ []
run_none test bytes same = nil_from_length (run test bytes) (omega (arith, after_within test bytes))

pub run_some : (test : ℕ → Bool) (bytes : List ℕ) → begins test bytes ≡ true → 0 < length (run test bytes)
run_some test [] passes = absurd (cc)
run_some test (b ∷ rest) passes = rw passes (omega arith)
