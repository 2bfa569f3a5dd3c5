-- How a run ends and what it writes, by what is due.
use Rattle.std.proofs.Common.{◌≡◌, ◌≢◌, ℕ, inl, inr, List, Option, refl, sym, subst}
use Rattle.std.specs.Prelude.{Ok, Err}
use Rattle.std.specs.declared.vec.Vec.{Vec}
use Rattle.command_words.specs.Asked.{Asked, AreAsked}
use Rattle.command_words.specs.Words.{AreNoForm}
use Rattle.command_words.proofs.CallerLemmas.{not_none}
use Rattle.schema_files.specs.declared.load_fault.LoadFault.TheVariants as faults
use Rattle.schema_files.proofs.CallerLemmas.{any_held}
use Rattle.tars_base.specs.Contents.{Contents, Held, IsHeld, HoldsOnly}
use Rattle.tars_base.specs.declared.status.Status.{Status}
use Rattle.tars_base.specs.declared.status.Status.TheVariants.{Done, Refused, Usage, ReadFault, WriteFault, Memory}
use Rattle.tars_command.specs.Due.{DueAnswer, usage, refused, unread, done, Due}
use Rattle.tars_command.specs.RunSteps.{EndsWith}
use Rattle.tars_command.specs.Runs.{WritesDue, EndsAsDue, MayEnd}
use Rattle.tars_command.proofs.Comings.{ForAsked, no_usage}
use Rattle.tars_command.proofs.DueLaws.{Row, no_row, row, row_of, only_due, only_usage}

-- an end that one answer may have, when nothing else is due
only_ends : (held : Held) (words : List (List ℕ)) (answer : DueAnswer) (status : Status) → HoldsOnly (Due held words) answer → MayEnd answer status → EndsAsDue held words status
only_ends held words answer status one may = λ other given. subst (λ (a : DueAnswer). MayEnd a status) (sym (one.only other given)) may

module _ (told : Option Contents) (words : List (List ℕ)) (old new : Option (List ℕ)) where
  abbrev pub ForRun : Status → Type 0
  ForRun status = (held : Held) × IsHeld told held × WritesDue held words old new status × EndsAsDue held words status

  ended : (held : Held) (status end : Status) → IsHeld told held → status ≡ end → WritesDue held words old new end → EndsAsDue held words end → ForRun status
  ended held status end told_so is writes ends = subst ForRun (sym is) (held, told_so, writes, ends)

  module _ (x : Asked) (ask : AreAsked words x) where
    pub run_done : (A : Type 0) (text : Vec ℕ A) (status : Status) → ForAsked A told x (Ok text) → EndsWith old new text.items Done status → ForRun status
    run_done A text status given (inl all) =
        let one = only_due given.0 words x (done text.items) ask given.2 in
        ended given.0 status Done given.1 all.0 (text.items, one.holds, all.1) (only_ends given.0 words (done text.items) Done one tt)
    run_done A text status given (inr prefix) =
        let one = only_due given.0 words x (done text.items) ask given.2 in
        ended given.0 status WriteFault given.1 prefix.0 (text.items, inl one.holds, prefix.1) (only_ends given.0 words (done text.items) WriteFault one tt)

    pub run_refused : (A : Type 0) (line : List ℕ) (status : Status) → ForAsked A told x (Err (faults.Refused line)) → EndsWith old new line Refused status → ForRun status
    run_refused A line status given (inl all) =
        let one = only_due given.0 words x (refused line) ask given.2 in
        ended given.0 status Refused given.1 all.0 (line, one.holds, all.1) (only_ends given.0 words (refused line) Refused one tt)
    run_refused A line status given (inr prefix) =
        let one = only_due given.0 words x (refused line) ask given.2 in
        ended given.0 status WriteFault given.1 prefix.0 (line, inr one.holds, prefix.1) (only_ends given.0 words (refused line) WriteFault one tt)

-- a run that writes nothing
module _ (told : Option Contents) (words : List (List ℕ)) where
  abbrev ForEnd : Status → Type 0
  ForEnd status = (held : Held) × IsHeld told held × Unit {0} × EndsAsDue held words status

  pub run_usage : AreNoForm words → ForEnd Usage
  run_usage none = let any = any_held told in (any.0, any.1, tt, only_ends any.0 words usage Usage (only_usage any.0 words none) tt)

  not_usage : (held : Held) (x : Asked) → AreAsked words x → (answer : DueAnswer) → Row held words answer → answer ≢ usage
  not_usage held x ask answer (no_row none) = absurd (not_none words x ask none)
  not_usage held x ask answer (row y also given) = no_usage held y answer given

  -- a failed read comes only where the words are a command
  pub run_unread : (x : Asked) → AreAsked words x → ForEnd ReadFault
  run_unread x ask = let any = any_held told in (any.0, any.1, tt, λ answer given. may_end answer (not_usage any.0 x ask answer (row_of any.0 words answer given)))
    where
      may_end : (answer : DueAnswer) → answer ≢ usage → MayEnd answer ReadFault
      may_end usage other = absurd (other refl)
      may_end (refused line) other = tt
      may_end (unread name) other = tt
      may_end (done text) other = tt

  -- want of memory may come with any words
  pub run_short : ForEnd Memory
  run_short = let any = any_held told in (any.0, any.1, tt, λ answer given. may_end answer)
    where
      may_end : (answer : DueAnswer) → MayEnd answer Memory
      may_end usage = tt
      may_end (refused line) = tt
      may_end (unread name) = tt
      may_end (done text) = tt
