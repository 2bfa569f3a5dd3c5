-- Runs of bytes that end where another rest stands.
use Rattle.std.proofs.Common.{◌≡◌, ℕ, Bool, true, false, cond, List, [], ◌∷◌, ◌++◌, refl, ap, ◌∙◌}
use Rattle.std.proofs.lemmas.List.{append-nil}
use Rattle.std.specs.List.{list_all}
use Rattle.idl_lex.specs.Bytes.{begins}
use Rattle.idl_lex.specs.LexSteps.{run, after_run}
use Rattle.idl_lex.proofs.Lexing.Words.RunLaws.{run_over, after_over}

-- a run stops where a byte does not pass
pub run_stops : (test : ℕ → Bool) (word rest : List ℕ) → list_all test word ≡ true → begins test rest ≡ false → run test (word ++ rest) ≡ word
run_stops test word rest passes stops = run_over test word rest passes ∙ ap (λ (l : List ℕ). word ++ l) (none rest stops) ∙ append-nil word
  where
    none : (rest : List ℕ) → begins test rest ≡ false → run test rest ≡ []
    none [] h = refl
    none (b ∷ rest) h = rw h refl

pub after_stops : (test : ℕ → Bool) (word rest : List ℕ) → list_all test word ≡ true → begins test rest ≡ false → after_run test (word ++ rest) ≡ rest
after_stops test word rest passes stops = after_over test word rest passes ∙ none rest stops
  where
    none : (rest : List ℕ) → begins test rest ≡ false → after_run test rest ≡ rest
    none [] h = refl
    none (b ∷ rest) h = rw h refl

-- behind a run stands no byte that passes
pub run_is_over : (test : ℕ → Bool) (bytes : List ℕ) → begins test (after_run test bytes) ≡ false
run_is_over test [] = refl
run_is_over test (b ∷ bytes) = by_test (test b) refl (run_is_over test bytes)
  where
    by_test : (t : Bool) → test b ≡ t → begins test (after_run test bytes) ≡ false → begins test (cond t (after_run test bytes) (b ∷ bytes)) ≡ false
    by_test true is others = others
    by_test false is others = is
