-- How `clap` walks over words of which none begins with `-`.
use Rattle.std.proofs.Common.{◌≡◌, ◌∙◌, ℕ, Bool, true, false, not, ◌==◌, List, [], ◌∷◌, ◌++◌, fold, Some, None, refl, sym, ap, codes, append_assoc, append-nil}
use Rattle.std.specs.Str.{bytes_eq}
use Rattle.clap.specs.Faults.{step_fault, turn_fault, walk_fault, word_fault}
use Rattle.clap.specs.Lexer.{long_of, short_of, strip_byte}
use Rattle.clap.specs.Simple.{Shape}
use Rattle.clap.specs.Walk.{Held, Names, Rule, Text, Walk, idle, value, arg_by_index, subcommand_met, to_positional, walked, word_met}
use Rattle.command_words.specs.Words.{is_word}

no_dash : (c : ℕ) (cs : Text) → is_word (c ∷ cs) ≡ true → (c == 45) ≡ false
no_dash c cs is = by_test (c == 45) is
  where
    by_test : (t : Bool) → not t ≡ true → t ≡ false
    by_test false is = refl
    by_test true is = absurd cc

no_minus : (word : Text) → is_word word ≡ true → strip_byte 45 word ≡ None
no_minus [] is = absurd cc
no_minus (c ∷ cs) is = rw (no_dash c cs is) refl

no_long : (word : Text) → is_word word ≡ true → long_of word ≡ None
no_long word is = rw (no_minus word is) refl

no_short : (word : Text) → is_word word ≡ true → short_of word ≡ None
no_short word is = rw (no_minus word is) refl

no_dashes : (word : Text) → is_word word ≡ true → bytes_eq word (codes "--") ≡ false
no_dashes [] is = refl
no_dashes (c ∷ cs) is = rw (no_dash c cs is) refl

-- where the walk stands before a word, with nothing that waits for it
abbrev pub at : Held → ℕ → Walk
at h position = record { held = h; waiting = idle; position = position; is_trailing = false; stopped = None }

module _ (s : Shape) (names : Names) (h : Held) (position : ℕ) (word : Text) (is : is_word word ≡ true) (no : subcommand_met names idle word ≡ None) where
  -- such a word goes to a positional
  plain_met : word_met s.rules names false idle position word h ≡ (h, value)
  plain_met = rw (no, no_dashes word is, no_long word is, no_short word is) refl

  plain_fault : word_fault s names false idle word h ≡ []
  plain_fault = rw (no, no_dashes word is, no_long word is, no_short word is) refl

  pub plain_walked : walked s.rules names (at h position) word ≡ to_positional s.rules (arg_by_index s.rules position) word (at h position) h
  unfolding walked
  plain_walked = rw plain_met refl

  pub plain_turn : turn_fault s names (at h position) word ≡ step_fault s position h value
  plain_turn = rw (plain_fault, plain_met) refl

-- the walk after a subcommand
abbrev pub stopped_at : Text → List Text → Walk → Walk
stopped_at name words w = record w { stopped = Some (name, words) }

pub walk_stopped : (c : List Rule) (names : Names) (name : Text) (before words : List Text) (w : Walk) → fold (walked c names) (stopped_at name before w) words ≡ stopped_at name (before ++ words) w
unfolding walked
walk_stopped c names name before [] w = ap (λ (b : List Text). stopped_at name b w) (sym (append-nil before))
walk_stopped c names name before (word ∷ words) w =
    walk_stopped c names name (before ++ word ∷ []) words w ∙ ap (λ (b : List Text). stopped_at name b w) (append_assoc before (word ∷ []) words)

pub fault_stopped : (s : Shape) (names : Names) (name : Text) (before words : List Text) (w : Walk) → walk_fault s names (stopped_at name before w) words ≡ []
unfolding walked walk_fault
fault_stopped s names name before [] w = refl
fault_stopped s names name before (word ∷ words) w = fault_stopped s names name (before ++ word ∷ []) words w
