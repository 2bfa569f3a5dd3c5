-- What `clap` makes of the words of the commands.
use Rattle.std.proofs.Common.{◌≡◌, ◌≢◌, ◌∙◌, true, List, [], ◌∷◌, fold, find, Option, Some, None, option_map, refl, sym, ap, codes}
use Rattle.std.specs.Option.{option_map_or, is_some}
use Rattle.clap.specs.Words.{Shape, Text, built, fault_of, subcommand_of}
use Rattle.clap.specs.Faults.{check_fault, defaults_fault, is_simple_and_free, settle_fault, step_fault, turn_fault, walk_fault}
use Rattle.clap.specs.Kinds.{Kinds, or_else}
use Rattle.clap.specs.Simple.{built_leaf, entered, inherited, label_of, marked_built, names_of, on_top, rows_at, with_leaf_noted}
use Rattle.clap.specs.Walk.{Names, Walk, answers_to, finished, idle, nothing_held, rows_after, settled, subcommand_met, value, walk, walked}
use Rattle.clap.proofs.OnLiterals.{clap_on_literals}
use Rattle.command_words.specs.FormSteps.{forms, check_form, plan_form, encode_form, decode_form, compat_form}
use Rattle.command_words.specs.Words.{is_word}
use Rattle.command_words.proofs.WalkLaws.{at, plain_turn, stopped_at, walk_stopped, fault_stopped}
use Rattle.command_words.proofs.SlotLaws.{Takes, no_more, one_more, fault_from, first_fault}

pub are_simple : is_simple_and_free forms ≡ true
unfolding clap_on_literals
are_simple = refl

-- ---- the first word

abbrev Top : Shape
Top = (built forms).top

abbrev pub Labels : Names
Labels = names_of (built forms)

abbrev start : Walk
start = at nothing_held 1

-- a command, as it is built
abbrev pub made : Shape → Shape
made s = built_leaf (inherited (on_top with_leaf_noted (on_top marked_built forms)).top s)

-- the word is the name of the command s
pub record IsNameOf (name : Text) (s : Shape) : Type 0 where
  pub met : walked Top.rules Labels start name ≡ stopped_at name [] start
  pub passes : turn_fault Top Labels start name ≡ []
  pub found : find (λ s. answers_to name (label_of s)) (built forms).subs ≡ Some s

pub check_name : IsNameOf (codes "check") (made check_form)
unfolding clap_on_literals
check_name = record { met = refl; passes = refl; found = refl }

pub plan_name : IsNameOf (codes "plan") (made plan_form)
unfolding clap_on_literals
plan_name = record { met = refl; passes = refl; found = refl }

pub encode_name : IsNameOf (codes "encode") (made encode_form)
unfolding clap_on_literals
encode_name = record { met = refl; passes = refl; found = refl }

pub decode_name : IsNameOf (codes "decode") (made decode_form)
unfolding clap_on_literals
decode_name = record { met = refl; passes = refl; found = refl }

pub compat_name : IsNameOf (codes "compat") (made compat_form)
unfolding clap_on_literals
compat_name = record { met = refl; passes = refl; found = refl }

module _ (name : Text) (s : Shape) (is : IsNameOf name s) (words : List Text) where
  stop : walk Top.rules Labels nothing_held (name ∷ words) ≡ stopped_at name words start
  stop = ap (λ (w : Walk). fold (walked Top.rules Labels) w words) is.met ∙ walk_stopped Top.rules Labels name [] words start

  first_passes : walk_fault Top Labels start (name ∷ words) ≡ []
  unfolding walk_fault
  first_passes =
      ap (λ (f : Kinds). or_else f (walk_fault Top Labels (walked Top.rules Labels start name) words)) is.passes
      ∙ ap (λ (w : Walk). walk_fault Top Labels w words) is.met ∙ fault_stopped Top Labels name [] words start

  -- what fails below the first word, and after it
  abbrev Below : Option Shape → Kinds
  Below o = or_else (option_map_or (λ s. fault_from s 1 nothing_held words) o [])
      (or_else (settle_fault Top.rules Top.args_override_self nothing_held)
      (or_else (defaults_fault (settled Top.rules nothing_held).rows Top.rules)
      (check_fault Top (finished Top.rules nothing_held) (is_some (option_map (λ s. rows_at s words) o)))))

  abbrev Whole : Kinds → Walk → Kinds
  Whole first w = or_else first
      (or_else (option_map_or (λ p. option_map_or (λ s. fault_from s 1 nothing_held p.1) (find (λ s. answers_to p.0 (label_of s)) (built forms).subs) []) w.stopped [])
      (or_else (settle_fault Top.rules Top.args_override_self w.held)
      (or_else (defaults_fault (settled Top.rules w.held).rows Top.rules)
      (check_fault Top (finished Top.rules w.held) (is_some (entered (built forms) w.stopped))))))

  pub named_fault : fault_of forms (name ∷ words) ≡ or_else (fault_from s 1 nothing_held words) []
  unfolding clap_on_literals
  named_fault =
      ap (Whole (walk_fault Top Labels start (name ∷ words))) stop
      ∙ ap (λ (f : Kinds). Whole f (stopped_at name words start)) first_passes
      ∙ ap Below is.found

  pub named_rows : subcommand_of forms (name ∷ words) ≡ Some (s.name, rows_after s.rules [] words)
  named_rows =
      ap (λ (w : Walk). entered (built forms) w.stopped) stop ∙ ap (option_map (λ (s : Shape). rows_at s words)) is.found

-- ---- the words after it

unfoldable pub check_takes : Takes (made check_form) 1 nothing_held 1
unfolding clap_on_literals
check_takes = one_more _ refl (λ a. refl) (λ e. cc) (λ a. no_more (λ e. cc) refl)

unfoldable pub plan_takes : Takes (made plan_form) 1 nothing_held 1
unfolding clap_on_literals
plan_takes = one_more _ refl (λ a. refl) (λ e. cc) (λ a. no_more (λ e. cc) refl)

unfoldable pub encode_takes : Takes (made encode_form) 1 nothing_held 3
unfolding clap_on_literals
encode_takes = one_more _ refl (λ a. refl) (λ e. cc) (λ a. one_more _ refl (λ b. refl) (λ e. cc) (λ b. one_more _ refl (λ c. refl) (λ e. cc) (λ c. no_more (λ e. cc) refl)))

unfoldable pub decode_takes : Takes (made decode_form) 1 nothing_held 3
unfolding clap_on_literals
decode_takes = one_more _ refl (λ a. refl) (λ e. cc) (λ a. one_more _ refl (λ b. refl) (λ e. cc) (λ b. one_more _ refl (λ c. refl) (λ e. cc) (λ c. no_more (λ e. cc) refl)))

unfoldable pub compat_takes : Takes (made compat_form) 1 nothing_held 3
unfolding clap_on_literals
compat_takes = one_more _ refl (λ a. refl) (λ e. cc) (λ a. one_more _ refl (λ b. refl) (λ e. cc) (λ b. one_more _ refl (λ c. refl) (λ e. cc) (λ c. no_more (λ e. cc) refl)))

-- ---- words that are no command

pub no_words : fault_of forms [] ≢ []
unfolding clap_on_literals
no_words = λ e. cc

pub help_fails : (words : List Text) → fault_of forms (codes "help" ∷ words) ≢ []
unfolding clap_on_literals
help_fails words = λ e. cc

pub other_fails : (name : Text) (words : List Text) → is_word name ≡ true → subcommand_met Labels idle name ≡ None → fault_of forms (name ∷ words) ≢ []
unfolding walk_fault
other_fails name words is none =
    first_fault (turn_fault Top Labels start name) _ _
    (λ e. let stray : step_fault Top 1 nothing_held value ≡ [] = sym (plain_turn Top Labels nothing_held 1 name is none) ∙ e in cc)
