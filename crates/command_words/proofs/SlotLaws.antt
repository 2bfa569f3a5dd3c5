-- A command that takes a number of words, each in a place of its own, takes as many and no others.
use Rattle.std.proofs.Common.{arith, ◌≡◌, ◌≢◌, ◌∙◌, ◌+◌, ℕ, zero, suc, true, false, List, [], ◌∷◌, fold, length, refl, sym, ap}
use Rattle.std.specs.List.{list_all}
use Rattle.std.proofs.lemmas.Bool.{and_parts}
use Rattle.clap.specs.Faults.{check_fault, defaults_fault, settle_fault, step_fault, turn_fault, walk_fault}
use Rattle.clap.specs.Kinds.{Kinds, or_else}
use Rattle.clap.specs.Simple.{Shape}
use Rattle.clap.specs.Walk.{Held, Text, Walk, arg_by_index, finished, settled, to_positional, value, walked}
use Rattle.command_words.specs.Words.{is_word}
use Rattle.command_words.proofs.WalkLaws.{at, plain_walked, plain_turn}

-- what fails at the end of the words
abbrev pub end_fault : Shape → Held → Kinds
end_fault s h = or_else (settle_fault s.rules s.args_override_self h)
    (or_else (defaults_fault (settled s.rules h).rows s.rules) (check_fault s (finished s.rules h) false))

pub first_fault : (first rest last : Kinds) → first ≢ [] → or_else (or_else first rest) last ≢ []
first_fault [] rest last is = λ e. is refl
first_fault (k ∷ ks) rest last is = λ e. cc

module _ (s : Shape) where
  abbrev Next : ℕ → Held → Text → Walk
  Next position h word = to_positional s.rules (arg_by_index s.rules position) word (at h position) h

  -- from here the command takes so many words, and what is held then
  pub data Takes : ℕ → Held → ℕ → Type 0 where
    no_more : {position : ℕ} {h : Held} → step_fault s position h value ≢ [] → end_fault s h ≡ [] → Takes position h 0
    one_more : {position count : ℕ} {h : Held} (next : Text → Held) → step_fault s position h value ≡ [] → ((word : Text) → Next position h word ≡ at (next word) (position + 1))
        → end_fault s h ≢ [] → ((word : Text) → Takes (position + 1) (next word) count) → Takes position h (suc count)

  unfoldable pub held_after : (words : List Text) (position : ℕ) (h : Held) (count : ℕ) → Takes position h count → Held
  held_after [] position h count takes = h
  held_after (word ∷ words) position h zero takes = h
  held_after (word ∷ words) position h (suc count) (one_more next fits goes lacks takes) = held_after words (position + 1) (next word) count (takes word)

  abbrev pub fault_from : ℕ → Held → List Text → Kinds
  fault_from position h words = or_else (walk_fault s [] (at h position) words) (end_fault s (fold (walked s.rules []) (at h position) words).held)

  -- the walk over one more word
  goes_on : (position : ℕ) (h : Held) (word : Text) (words : List Text) (next : Held) → is_word word ≡ true → step_fault s position h value ≡ [] → Next position h word ≡ at next (position + 1)
      → (fold (walked s.rules []) (at h position) (word ∷ words) ≡ fold (walked s.rules []) (at next (position + 1)) words)
      × (walk_fault s [] (at h position) (word ∷ words) ≡ walk_fault s [] (at next (position + 1)) words)
  unfolding walk_fault held_after
  goes_on position h word words next is fits goes =
      let met = plain_walked s [] h position word is refl ∙ goes in (
        ap (λ (w : Walk). fold (walked s.rules []) w words) met,
        ap (λ (f : Kinds). or_else f (walk_fault s [] (walked s.rules [] (at h position) word) words)) (plain_turn s [] h position word is refl ∙ fits)
            ∙ ap (λ (w : Walk). walk_fault s [] w words) met,
      )

  stops : (position : ℕ) (h : Held) (word : Text) (words : List Text) → is_word word ≡ true → step_fault s position h value ≢ [] → fault_from position h (word ∷ words) ≢ []
  unfolding walk_fault held_after
  stops position h word words is stray =
      first_fault (turn_fault s [] (at h position) word) (walk_fault s [] (walked s.rules [] (at h position) word) words) (end_fault s (fold (walked s.rules []) (at h position) (word ∷ words)).held)
      (λ e. stray (sym (plain_turn s [] h position word is refl) ∙ e))

  -- so many words it takes
  pub walk_takes : (words : List Text) (position : ℕ) (h : Held) (count : ℕ) (takes : Takes position h count) → list_all is_word words ≡ true → length words ≡ count
      → ((fold (walked s.rules []) (at h position) words).held ≡ held_after words position h count takes) × (fault_from position h words ≡ [])
  unfolding walk_fault held_after
  walk_takes [] position h zero (no_more stray whole) are long = (refl, whole)
  walk_takes [] position h (suc count) takes are long = absurd (omega arith)
  walk_takes (word ∷ words) position h zero takes are long = absurd (omega arith)
  walk_takes (word ∷ words) position h (suc count) (one_more next fits goes lacks takes) are long =
      let both = and_parts (is_word word) (list_all is_word words) are in
      let on = goes_on position h word words (next word) both.0 fits (goes word) in
      let rest = walk_takes words (position + 1) (next word) count (takes word) both.1 (omega arith) in (
        ap (λ (w : Walk). w.held) on.0 ∙ rest.0,
        ap (λ (w : Walk). or_else (walk_fault s [] (at h position) (word ∷ words)) (end_fault s w.held)) on.0
            ∙ ap (λ (f : Kinds). or_else f (end_fault s (fold (walked s.rules []) (at (next word) (position + 1)) words).held)) on.1 ∙ rest.1,
      )

  -- and no others
  pub takes_so_many : (words : List Text) (position : ℕ) (h : Held) (count : ℕ) → Takes position h count → list_all is_word words ≡ true → fault_from position h words ≡ [] → length words ≡ count
  unfolding walk_fault held_after
  takes_so_many [] position h zero takes are none = refl
  takes_so_many [] position h (suc count) (one_more next fits goes lacks takes) are none = absurd (lacks none)
  takes_so_many (word ∷ words) position h zero (no_more stray whole) are none =
      absurd (stops position h word words (and_parts (is_word word) (list_all is_word words) are).0 stray none)
  takes_so_many (word ∷ words) position h (suc count) (one_more next fits goes lacks takes) are none =
      let both = and_parts (is_word word) (list_all is_word words) are in
      let on = goes_on position h word words (next word) both.0 fits (goes word) in
      ap suc (takes_so_many words (position + 1) (next word) count (takes word) both.1
      (sym (ap (λ (w : Walk). or_else (walk_fault s [] (at h position) (word ∷ words)) (end_fault s w.held)) on.0
      ∙ ap (λ (f : Kinds). or_else f (end_fault s (fold (walked s.rules []) (at (next word) (position + 1)) words).held)) on.1) ∙ none))
