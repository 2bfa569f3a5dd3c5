-- Whatever the words are and the files hold, one answer is due, and no other.
use Rattle.std.proofs.Common.{◌≡◌, inl, inr, ℕ, List, refl, sym, subst}
use Rattle.command_words.specs.Asked.{Asked, check, plan, encode, decode, compat, AreAsked}
use Rattle.command_words.specs.Words.{AreNoForm}
use Rattle.command_words.proofs.CallerLemmas.{Either, asked_or_no_form, one_asked, not_none}
use Rattle.tars_base.specs.Contents.{Held, HoldsOnly}
use Rattle.tars_command.specs.Due as due
use Rattle.tars_command.specs.Due.{DueAnswer, usage, Due, no_form, AskedOfBytes}
use Rattle.tars_command.specs.RunSteps.{Comes, checked, run, encoded, decoded, compared}
use Rattle.tars_command.proofs.Comings.{HasBytesFor, some_coming, same_coming}

module _ (held : Held) (words : List (List ℕ)) where
  -- what is due, by whether the words ask for something
  pub data Row : DueAnswer → Type 0 where
    no_row : AreNoForm words → Row usage
    row : {answer : DueAnswer} (x : Asked) → AreAsked words x → Comes held x answer → Row answer

  pub row_of : (answer : DueAnswer) → Due held words answer → Row answer
  row_of answer (no_form none) = no_row none
  row_of answer (due.check file given ask holds) = row (check file) ask (checked given holds)
  row_of answer (due.plan script given ask holds) = row (plan script) ask (run given holds)
  row_of answer (due.encode file home name values given ask holds) = row (encode file home name values) ask (encoded given holds)
  row_of answer (due.decode file home name hex given ask holds) = row (decode file home name hex) ask (decoded given holds)
  row_of answer (due.compat old new home name given ask holds) = row (compat old new home name) ask (compared given holds)

  due_by : (x : Asked) (answer : DueAnswer) → AreAsked words x → Comes held x answer → Due held words answer
  due_by (check file) answer ask (checked given holds) = due.check file given ask holds
  due_by (plan script) answer ask (run given holds) = due.plan script given ask holds
  due_by (encode file home name values) answer ask (encoded given holds) = due.encode file home name values given ask holds
  due_by (decode file home name hex) answer ask (decoded given holds) = due.decode file home name hex given ask holds
  due_by (compat old new home name) answer ask (compared given holds) = due.compat old new home name given ask holds

  -- what comes of what is asked for is due, and nothing else is
  pub only_due : (x : Asked) (answer : DueAnswer) → AreAsked words x → Comes held x answer → HoldsOnly (Due held words) answer
  only_due x answer ask comes = record { holds = due_by x answer ask comes; only = λ other given. by_row other (row_of other given) }
    where
      by_row : (other : DueAnswer) → Row other → other ≡ answer
      by_row other (no_row none) = absurd (not_none words x ask none)
      by_row other (row y also given) =
          same_coming held x other answer (subst (λ (z : Asked). Comes held z other) (one_asked words y x also ask) given) comes

  pub only_usage : AreNoForm words → HoldsOnly (Due held words) usage
  only_usage none = record { holds = no_form none; only = λ other given. by_row other (row_of other given) }
    where
      by_row : (other : DueAnswer) → Row other → other ≡ usage
      by_row other (no_row also) = refl
      by_row other (row y ask given) = absurd (not_none words y ask none)

  pub same_due : (a b : DueAnswer) → Due held words a → Due held words b → a ≡ b
  same_due a b first second = sym (by_row a (row_of a first))
    where
      by_row : (answer : DueAnswer) → Row answer → b ≡ answer
      by_row answer (no_row none) = (only_usage none).only b second
      by_row answer (row x ask comes) = (only_due x answer ask comes).only b second

  pub some_due : AskedOfBytes held words → (answer : DueAnswer) × Due held words answer
  some_due bytes = by_words (asked_or_no_form words)
    where
      bytes_for : (x : Asked) → AreAsked words x → HasBytesFor held x
      bytes_for (check file) ask = tt
      bytes_for (plan script) ask = tt
      bytes_for (encode file home name values) ask = bytes file home name values ask
      bytes_for (decode file home name hex) ask = tt
      bytes_for (compat old new home name) ask = tt

      by_words : Either words → (answer : DueAnswer) × Due held words answer
      by_words (inl (x, ask)) = let some = some_coming held x (bytes_for x ask) in (some.0, due_by x some.0 ask some.1)
      by_words (inr none) = (usage, no_form none)
