-- What is asked for, as one thing: by the words, and by a request.
use Rattle.std.specs.Prelude.{ℕ, List}
use Rattle.command_words.specs.Words.{AskForCheck, AskForPlan, AskForEncode, AskForDecode, AskForCompat}
use Rattle.command_words.specs.declared.request.Request.{Request}
use Rattle.command_words.specs.declared.request.Request.TheVariants.{Check, Plan, Encode, Decode, Compat}

-- a command and what follows it: files, and of a struct its module and its name
pub data Asked : Type 0 where
  check : List ℕ → Asked
  plan : List ℕ → Asked
  encode : List ℕ → List ℕ → List ℕ → List ℕ → Asked
  decode : List ℕ → List ℕ → List ℕ → List ℕ → Asked
  compat : List ℕ → List ℕ → List ℕ → List ℕ → Asked

-- what a request asks for
abbrev pub asked_by : Request → Asked
asked_by (Check file) = check file.now
asked_by (Plan script) = plan script.now
asked_by (Encode on) = encode on.file.now on.of.«module».now on.of.name.now on.values.now
asked_by (Decode on) = decode on.file.now on.of.«module».now on.of.name.now on.values.now
asked_by (Compat on) = compat on.old.now on.new.now on.of.«module».now on.of.name.now

-- the words ask for this
abbrev pub AreAsked : List (List ℕ) → Asked → Type 0
AreAsked words (check file) = AskForCheck words file
AreAsked words (plan script) = AskForPlan words script
AreAsked words (encode file home name values) = AskForEncode words file home name values
AreAsked words (decode file home name hex) = AskForDecode words file home name hex
AreAsked words (compat old new home name) = AskForCompat words old new home name
