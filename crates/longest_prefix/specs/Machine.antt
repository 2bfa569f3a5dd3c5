-- A machine that reads one letter after another, and the laws that tie it to a language.
use Rattle.std.specs.Prelude.{ℕ, suc, Bool, true, false, List, [], ◌∷◌, Result, Ok, Err}

-- what a word leads to: it is taken, or the machine stops before the letter at a offset
pub data Course (Why : Type 0) : Type 0 where
  taken : Course Why
  stopped : ℕ → Why → Course Why

abbrev pub one_later : {Why : Type 0} → Course Why → Course Why
one_later taken = taken
one_later (stopped offset why) = stopped (suc offset) why

abbrev pub ended : {Why : Type 0} → Bool → Why → Course Why
ended true short = taken
ended false short = stopped 0 short

-- The course from a state. Each letter takes the machine on or is refused. A word may end where
-- `may_end` says so; else it is too short.
abbrev pub run : {State Letter Why : Type 0} → (State → Letter → Result State Why) → (State → Bool) → Why → State → List Letter → Course Why
run step may_end short state [] = ended (may_end state) short
run step may_end short state (letter ∷ word) =
    elim (step state letter) [ Ok to ↦ one_later (run step may_end short to word) | Err why ↦ stopped 0 why ]

-- what the language has left after a step
abbrev pub Goes : {State Letter Why : Type 0} → (State → List Letter → Type 0) → Result State Why → List Letter → Type 0
Goes L (Ok to) word = L to word
Goes L (Err why) word = ⊥

-- A word may end, or not.
abbrev pub Ends : {Letter : Type 0} → (List Letter → Type 0) → Bool → Type 0
Ends L true = L []
Ends L false = L [] → ⊥

-- The machine reads the language: a step goes there, comes back, and each state can be completed. `Fits`
-- are the letters that can come.
pub record Reads {State Letter Why : Type 0} (step : State → Letter → Result State Why) (may_end : State → Bool) (Fits : Letter → Type 0) (L : State → List Letter → Type 0) : Type 0 where
  pub there : (state : State) (letter : Letter) (word : List Letter) → L state (letter ∷ word) → Goes L (step state letter) word
  pub back : (state : State) (letter : Letter) (word : List Letter) → Fits letter → Goes L (step state letter) word → L state (letter ∷ word)
  pub fill : (state : State) → (word : List Letter) × L state word
  pub ends : (state : State) → Ends (L state) (may_end state)
