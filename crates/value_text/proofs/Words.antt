-- Words that are read byte by byte, and readings that stop.
use Rattle.std.proofs.Common.{◌≡◌, ℕ, ◌+◌, ◌≤◌, ◌<◌, List, ◌∷◌, length, get_or, drop, Result, Ok, refl, sym, ap, ◌∙◌}
use Rattle.std.proofs.lemmas.List.{drop_more, drop_all}
use Rattle.facts.specs.ResultSteps.{◌>>=◌}
use Rattle.value_text.specs.ReadSteps.{Stop, Fails, byte_at, word_at}
use Rattle.value_text.specs.declared.halt.Halt.{Halt}
use Rattle.value_text.specs.declared.halt.Halt.TheVariants as halts

-- where the first step stops, all do
pub bind_fails : {A B : Type 0} (e : Halt) (left : List ℕ) (first : Result A Stop) (f : A → Result B Stop) → Fails e left first → Fails e left (first >>= f)
bind_fails halts.Memory left first f h = tt
bind_fails (halts.Bad why) left first f h = ap (λ (r : Result _ Stop). r >>= f) h

pub same_fails : {A : Type 0} (e : Halt) (left : List ℕ) (read total : Result A Stop) → read ≡ total → Fails e left read → Fails e left total
same_fails e left read total same h = rw (← same) h

pub left_of_word : (word : List ℕ) (i b : ℕ) → i < length word → b ≡ get_or word i 0 → drop i word ≡ b ∷ drop (i + 1) word
left_of_word word i b lt is = drop_more word i 0 lt ∙ ap (λ x. x ∷ drop (i + 1) word) (sym is)

module _ (word : List ℕ) (i b : ℕ) (bytes : List ℕ) (total : Result (List ℕ) Stop) (lt : i < length word) (is : b ≡ get_or word i 0) where
  pub word_goes_on : (after : List ℕ) → byte_at b bytes ≡ Ok after → word_at (drop i word) bytes ≡ total → word_at (drop (i + 1) word) after ≡ total
  unfolding word_at
  word_goes_on after h so_far =
      let one : word_at (drop i word) bytes ≡ word_at (drop (i + 1) word) after = rw (left_of_word word i b lt is, h) refl in
      sym one ∙ so_far

  pub word_fails : (e : Halt) (left : List ℕ) → Fails e left (byte_at b bytes) → word_at (drop i word) bytes ≡ total → Fails e left total
  unfolding word_at
  word_fails e left h so_far =
      let one : word_at (drop i word) bytes ≡ (byte_at b bytes >>= word_at (drop (i + 1) word)) = rw (left_of_word word i b lt is) refl in
      same_fails e left (byte_at b bytes >>= word_at (drop (i + 1) word)) total (sym one ∙ so_far) (bind_fails e left (byte_at b bytes) (word_at (drop (i + 1) word)) h)

pub word_ends : (word : List ℕ) (i : ℕ) (bytes : List ℕ) (total : Result (List ℕ) Stop) → length word ≤ i → word_at (drop i word) bytes ≡ total → total ≡ Ok bytes
unfolding word_at
word_ends word i bytes total past so_far = sym so_far ∙ rw (drop_all i word past) refl
