-- Truth words and the numbers of a type, in which reading gets stuck.
use Rattle.std.proofs.Common.{◌≡◌, ℕ, ℤ, Bool, true, false, ◌==◌, cond, List, ◌++◌, Err, refl, sym, ap, ◌∙◌, subst}
use Rattle.std.specs.Char.{is_ascii_alphabetic}
use Rattle.canonical_text.specs.Canonical.{truth_word}
use Rattle.facts.specs.ResultSteps.{◌>>=◌}
use Rattle.idl_lex.specs.Bytes.{begins}
use Rattle.tars_model.specs.Declarations.{Declared, items_at}
use Rattle.tars_model.specs.Types.{TyLayer}
use Rattle.tars_model.specs.Values.{is_number_of}
use Rattle.tars_model.specs.declared.ty.Ty.TheOpen as ty
use Rattle.tars_model.specs.declared.value.Value.TheVariants as values
use Rattle.value_text.specs.Answers.{IsEnd}
use Rattle.value_text.specs.ReadSteps.{out_of_range, word_at, truth_at, integer_at, name_at, said_at, number_at}
use Rattle.value_text.specs.Spelling.{NameSpells, SaysNumber}
use Rattle.value_text.specs.Spelling as spelling
use Rattle.value_text.specs.declared.value_fault.ValueWhy.{ValueWhy}
use Rattle.value_text.specs.declared.value_fault.ValueWhy.TheVariants.{Unexpected}
use Rattle.value_text.proofs.Induction.{AllOf}
use Rattle.value_text.proofs.Signs.{read_ok, true_is_not_false}
use Rattle.value_text.proofs.Moving.Shapes.{NumberShape}
use Rattle.value_text.proofs.Stopping.Languages.{Language, Anything, Agrees, Stuck, Word, this, that, begins_alike, stuck_as, stuck_in_other}
use Rattle.value_text.proofs.Stopping.Names.{HasWord, Names, NamesOrNumbers, stuck_in_name}
use Rattle.value_text.proofs.Stopping.Numbers.{Numbers, in_range, stuck_in_number}
use Rattle.value_text.proofs.Stopping.Signs.{stop, Stops, before, after, step_stops, stuck_in_word}

-- ---- truth words

abbrev pub Truth : Language
Truth bytes rest = (b : Bool) × (bytes ≡ truth_word b ++ rest)

-- the first byte tells which
first_tells : (b : Bool) (bytes rest : List ℕ) → bytes ≡ truth_word b ++ rest → begins (λ c. c == 116) bytes ≡ b
first_tells true bytes rest is = ap (begins (λ c. c == 116)) is
first_tells false bytes rest is = ap (begins (λ c. c == 116)) is

one_word : (b : Bool) (bytes left : List ℕ) → begins (λ c. c == 116) bytes ≡ b → Stuck Anything (Word (truth_word b)) bytes left → Stuck IsEnd Truth bytes left
one_word b bytes left tells s = record { front = s.front; is = s.is; more = s.more; goes_on = λ tail ends. (b, s.goes_on tail tt); blocked = blocked }
  where
    blocked : (other rest : List ℕ) → Agrees left other → Truth (s.front ++ other) rest → ⊥
    blocked other rest agree t =
        let same : t.0 ≡ b = sym (first_tells t.0 (s.front ++ other) rest t.1) ∙ begins_alike (λ c. c == 116) s.front left other agree ∙ ap (begins (λ c. c == 116)) (sym s.is) ∙ tells in
        s.blocked other rest agree (t.1 ∙ ap (λ (c : Bool). truth_word c ++ rest) same)

pub stuck_in_truth : (bytes left : List ℕ) (why : ValueWhy) → truth_at bytes ≡ Err (stop left why) → Stuck IsEnd Truth bytes left
unfolding truth_at
stuck_in_truth bytes left why e = by_first (begins (λ b. b == 116) bytes) refl e
  where
    by_word : (b : Bool) → begins (λ c. c == 116) bytes ≡ b → Stops (word_at (truth_word b) bytes) (λ r. read_ok (values.Bool b) r) (stop left why) → Stuck IsEnd Truth bytes left
    by_word b tells (before e) = one_word b bytes left tells (stuck_in_word (truth_word b) bytes left why e)
    by_word b tells (after rest read e) = absurd cc

    by_first : (b : Bool) → begins (λ c. c == 116) bytes ≡ b → cond b (word_at (truth_word true) bytes >>= λ r. read_ok (values.Bool true) r) (word_at (truth_word false) bytes >>= λ r. read_ok (values.Bool false) r) ≡ Err (stop left why) → Stuck IsEnd Truth bytes left
    by_first true tells e = by_word true tells (step_stops (word_at (truth_word true) bytes) (λ r. read_ok (values.Bool true) r) (stop left why) e)
    by_first false tells e = by_word false tells (step_stops (word_at (truth_word false) bytes) (λ r. read_ok (values.Bool false) r) (stop left why) e)

-- ---- numbers

abbrev is_enum : TyLayer → Bool
is_enum (ty.Enum k) = true
is_enum _ = false

abbrev enum_layer : ℕ → TyLayer
enum_layer k = ty.Enum k

same_enum : (k j : ℕ) → enum_layer k ≡ enum_layer j → k ≡ j
same_enum k j is = cc

-- a type that is no enum has its digits alone
digits_alone : (d : Declared) (l : TyLayer) (n : ℤ) (bytes rest : List ℕ) → is_enum l ≡ false → SaysNumber d l n bytes rest → Numbers bytes rest
digits_alone d l n bytes rest no_enum (spelling.digits_of is) = (n, is)
digits_alone d l n bytes rest no_enum (spelling.name k enum_is is) = absurd (true_is_not_false (sym (ap is_enum enum_is) ∙ no_enum))

stuck_alone : (d : Declared) (l : TyLayer) (bytes left : List ℕ) → is_enum l ≡ false → integer_at bytes ≡ Err (stop left Unexpected) → Stuck IsEnd (NumberShape d l) bytes left
stuck_alone d l bytes left no_enum e =
    stuck_as Numbers (NumberShape d l) (λ tail ends. ends) (λ b r n. (n.0, spelling.digits_of n.1)) (λ b r n. digits_alone d l n.0 b r no_enum n.1) (stuck_in_number bytes left e)

module _ (d : Declared) (named : (k : ℕ) → AllOf HasWord (items_at d k)) where
  module _ (k : ℕ) where
    enum_whole : (bytes rest : List ℕ) → NamesOrNumbers (items_at d k) bytes rest → NumberShape d (ty.Enum k) bytes rest
    enum_whole bytes rest (this n) = (n.0, spelling.name k refl n.1)
    enum_whole bytes rest (that n) = (n.0, spelling.digits_of n.1)

    enum_parts : (n : ℤ) (bytes rest : List ℕ) → SaysNumber d (ty.Enum k) n bytes rest → NamesOrNumbers (items_at d k) bytes rest
    enum_parts n bytes rest (spelling.digits_of is) = that (n, is)
    enum_parts n bytes rest (spelling.name j is spelled) = this (n, subst (λ (i : ℕ). NameSpells (items_at d i) n bytes rest) (sym (same_enum k j is)) spelled)

    stuck_in_enum : (bytes left : List ℕ) → said_at d (ty.Enum k) bytes ≡ Err (stop left Unexpected) → Stuck IsEnd (NumberShape d (ty.Enum k)) bytes left
    stuck_in_enum bytes left e =
        stuck_as (NamesOrNumbers (items_at d k)) (NumberShape d (ty.Enum k)) (λ tail ends. ends) enum_whole (λ b r n. enum_parts n.0 b r n.1) (by_letter (begins is_ascii_alphabetic bytes) refl e)
      where
        by_letter : (t : Bool) → begins is_ascii_alphabetic bytes ≡ t → cond t (name_at (items_at d k) bytes) (integer_at bytes) ≡ Err (stop left Unexpected) → Stuck IsEnd (NamesOrNumbers (items_at d k)) bytes left
        by_letter true letter e = stuck_in_name (items_at d k) (named k) bytes left Unexpected letter e
        by_letter false no_letter e =
            stuck_in_other (Names (items_at d k)) Numbers is_ascii_alphabetic (λ b r n same. true_is_not_false (sym n.1.letter ∙ same ∙ no_letter)) (stuck_in_number bytes left e)

  stuck_in_said : (l : TyLayer) (bytes left : List ℕ) → said_at d l bytes ≡ Err (stop left Unexpected) → Stuck IsEnd (NumberShape d l) bytes left
  stuck_in_said (ty.Enum k) bytes left e = stuck_in_enum k bytes left e
  stuck_in_said l bytes left e = stuck_alone d l bytes left refl e

  pub stuck_in_number_of : (l : TyLayer) (bytes left : List ℕ) → number_at d l bytes ≡ Err (stop left Unexpected) → Stuck IsEnd (NumberShape d l) bytes left
  unfolding number_at
  stuck_in_number_of l bytes left e = by_step (step_stops (said_at d l bytes) (λ n. cond (is_number_of l n.0) (read_ok (values.Num n.0) n.1) (out_of_range bytes)) (stop left Unexpected) e)
    where
      by_step : Stops (said_at d l bytes) (λ n. cond (is_number_of l n.0) (read_ok (values.Num n.0) n.1) (out_of_range bytes)) (stop left Unexpected) → Stuck IsEnd (NumberShape d l) bytes left
      by_step (before e) = stuck_in_said l bytes left e
      by_step (after n read e) = absurd (in_range (is_number_of l n.0) (values.Num n.0) n.1 bytes left e)
