-- A laxer machine goes on to the same states wherever a strict one does. So, at the letter where the strict one
-- stops, it tells whether a word of its own language goes on.
use Rattle.std.proofs.Common.{◌≡◌, ◌<◌, ℕ, suc, Bool, true, false, List, [], ◌∷◌, ◌++◌, length, take, Result, Ok, Err, refl, sym, ap, arith, subst}
use Rattle.std.specs.List.{AllByRecursion}
use Rattle.longest_prefix.specs.Prefixes.{Begins}
use Rattle.longest_prefix.specs.Machine.{Course, taken, stopped, one_later, ended, run, Goes, Reads}

-- the state after a word
abbrev pub after : {State Letter Why : Type 0} → (State → Letter → Result State Why) → State → List Letter → Result State Why
after step state [] = Ok state
after step state (letter ∷ word) = elim (step state letter) [ Ok to ↦ after step to word | Err why ↦ Err why ]

-- where a machine is at a offset of a word, before this letter
pub record At {State Letter Why : Type 0} (step : State → Letter → Result State Why) (Fits : Letter → Type 0) (start : State) (word : List Letter) (offset : ℕ) : Type 0 where
  pub state : State
  pub letter : Letter
  pub fits : Fits letter
  pub within : offset < length word
  pub prefix : List Letter
  pub prefix_fits : AllByRecursion Fits prefix
  pub prefix_is : take (suc offset) word ≡ prefix ++ letter ∷ []
  pub reached : after step start prefix ≡ Ok state

-- How a machine stops: at the end of the word, which is too short, or at a letter that a step refuses.
pub data Stopping {State Letter Why : Type 0} (step : State → Letter → Result State Why) (Fits : Letter → Type 0) (short : Why) (start : State) (word : List Letter) (offset : ℕ) (why : Why) : Type 0 where
  at_the_end : offset ≡ length word → why ≡ short → Stopping step Fits short start word offset why
  at_a_letter : (at : At step Fits start word offset) → step at.state at.letter ≡ Err why → Stopping step Fits short start word offset why

abbrev StopsSo : {State Letter Why : Type 0} → (State → Letter → Result State Why) → (Letter → Type 0) → Why → State → List Letter → Course Why → Type 0
StopsSo step Fits short start word taken = Unit {0}
StopsSo step Fits short start word (stopped offset why) = Stopping step Fits short start word offset why

first_step : {State Letter Why : Type 0} (step : State → Letter → Result State Why) (start to : State) (letter : Letter) (word : List Letter) (state : State) → step start letter ≡ Ok to → after step to word ≡ Ok state → after step start (letter ∷ word) ≡ Ok state
first_step {State} {Letter} {Why} step start to letter word state e f =
    let P : Result State Why → Type 0 = λ r. elim r [ Ok next ↦ after step next word | Err why ↦ Err why ] ≡ Ok state in
    subst P (sym e) f

-- one letter earlier
earlier : {State Letter Why : Type 0} (step : State → Letter → Result State Why) (Fits : Letter → Type 0) (short : Why) (start to : State) (letter : Letter) (word : List Letter) (offset : ℕ) (why : Why) → Fits letter → step start letter ≡ Ok to → Stopping step Fits short to word offset why → Stopping step Fits short start (letter ∷ word) (suc offset) why
earlier step Fits short start to letter word offset why fits e (at_the_end f g) = at_the_end (ap suc f) g
earlier step Fits short start to letter word offset why fits e (at_a_letter at g) =
    at_a_letter (record {
      state = at.state;
      letter = at.letter;
      fits = at.fits;
      within = let h = at.within in omega arith;
      prefix = letter ∷ at.prefix;
      prefix_fits = (fits, at.prefix_fits);
      prefix_is = ap (λ prefix. letter ∷ prefix) at.prefix_is;
      reached = first_step step start to letter at.prefix at.state e at.reached;
    }) g

stops : {State Letter Why : Type 0} (step : State → Letter → Result State Why) (may_end : State → Bool) (short : Why) (Fits : Letter → Type 0) (state : State) (word : List Letter) → AllByRecursion Fits word → StopsSo step Fits short state word (run step may_end short state word)
stops step may_end short Fits state [] fits = go (may_end state)
  where
    go : (b : Bool) → StopsSo step Fits short state [] (ended b short)
    go true = tt
    go false = at_the_end refl refl
stops {State} {Letter} {Why} step may_end short Fits state (letter ∷ word) fits = go (step state letter) refl (λ to. stops step may_end short Fits to word fits.1)
  where
    one_more : (to : State) → step state letter ≡ Ok to → (course : Course Why) → StopsSo step Fits short to word course → StopsSo step Fits short state (letter ∷ word) (one_later course)
    one_more to e taken x = tt
    one_more to e (stopped offset why) x = earlier step Fits short state to letter word offset why fits.0 e x

    go : (r : Result State Why) → step state letter ≡ r → ((to : State) → StopsSo step Fits short to word (run step may_end short to word))
        → StopsSo step Fits short state (letter ∷ word) (elim r [ Ok to ↦ one_later (run step may_end short to word) | Err why ↦ stopped 0 why ])
    go (Ok to) e rec = one_more to e (run step may_end short to word) (rec to)
    go (Err why) e rec = at_a_letter (record { state = state; letter = letter; fits = fits.0; within = omega arith; prefix = []; prefix_fits = tt; prefix_is = refl; reached = refl }) e

-- a machine that stops at a offset stops there in one of the two ways
pub stopping : {State Letter Why : Type 0} (step : State → Letter → Result State Why) (may_end : State → Bool) (short : Why) (Fits : Letter → Type 0) (state : State) (word : List Letter) (offset : ℕ) (why : Why) → AllByRecursion Fits word → run step may_end short state word ≡ stopped offset why → Stopping step Fits short state word offset why
stopping {State} {Letter} {Why} step may_end short Fits state word offset why fits e =
    let P : Course Why → Type 0 = StopsSo step Fits short state word in
    subst P e (stops step may_end short Fits state word fits)

-- what a step on the last letter says of the words that begin so
abbrev pub GoesOn : {State Letter Why : Type 0} → (List Letter → Type 0) → List Letter → Result State Why → Type 0
GoesOn L prefix (Ok to) = Begins L prefix
GoesOn L prefix (Err why) = Begins L prefix → ⊥

abbrev pub IsLaxer : {State Letter Why : Type 0} (strict lax : State → Letter → Result State Why) → Type 0
IsLaxer {State} {Letter} strict lax = (state : State) (letter : Letter) (to : State) → strict state letter ≡ Ok to → lax state letter ≡ Ok to

-- the state that a machine is in
abbrev IsIn : {State Why : Type 0} → Result State Why → State → Type 0
IsIn {State} {Why} r state = r ≡ Ok state

same_state : {State Why : Type 0} (a b : State) → IsIn {State = State} {Why = Why} (Ok a) b → a ≡ b
same_state a b e = cc

-- the theorem, from a state on
pub goes_on : {State Letter Why : Type 0} (strict lax : State → Letter → Result State Why) (may_end : State → Bool) (Fits : Letter → Type 0) (L : State → List Letter → Type 0) → IsLaxer strict lax → Reads lax may_end Fits L
    → (start : State) (prefix : List Letter) (state : State) (letter : Letter) → AllByRecursion Fits prefix → Fits letter → after strict start prefix ≡ Ok state → GoesOn (L start) (prefix ++ letter ∷ []) (lax state letter)
goes_on {State} {Letter} {Why} strict lax may_end Fits L laxer reads start [] state letter fits fit e = at_start state (same_state {Why = Why} start state e)
  where
    here : (r : Result State Why) → ((w : List Letter) → L start (letter ∷ w) → Goes L r w) → ((w : List Letter) → Goes L r w → L start (letter ∷ w)) → GoesOn (L start) (letter ∷ []) r
    here (Ok to) there back = let some = reads.fill to in record { more = some.0; word = back some.0 some.1 }
    here (Err why) there back = λ b. there b.more b.word

    at_start : (state : State) → start ≡ state → GoesOn (L start) (letter ∷ []) (lax state letter)
    at_start state f = subst (λ (s : State). GoesOn (L start) (letter ∷ []) (lax s letter)) f (here (lax start letter) (λ w. reads.there start letter w) (λ w. reads.back start letter w fit))
goes_on {State} {Letter} {Why} strict lax may_end Fits L laxer reads start (first ∷ prefix) state letter fits fit e =
    go (strict start first) refl e (λ to f. goes_on strict lax may_end Fits L laxer reads to prefix state letter fits.1 fit f)
  where
    there : (to : State) → lax start first ≡ Ok to → (w : List Letter) → L start (first ∷ w) → L to w
    there to f w x = subst (λ (r : Result State Why). Goes L r w) f (reads.there start first w x)

    back : (to : State) → lax start first ≡ Ok to → (w : List Letter) → L to w → L start (first ∷ w)
    back to f w x = reads.back start first w fits.0 (subst (λ (r : Result State Why). Goes L r w) (sym f) x)

    further : (to : State) → lax start first ≡ Ok to → (r : Result State Why) → GoesOn (L to) (prefix ++ letter ∷ []) r → GoesOn (L start) (first ∷ prefix ++ letter ∷ []) r
    further to f (Ok on) g = record { more = g.more; word = back to f ((prefix ++ letter ∷ []) ++ g.more) g.word }
    further to f (Err why) g = λ b. g (record { more = b.more; word = there to f ((prefix ++ letter ∷ []) ++ b.more) b.word })

    go : (r : Result State Why) → strict start first ≡ r → IsIn {State = State} {Why = Why} (elim r [ Ok to ↦ after strict to prefix | Err why ↦ Err why ]) state → ((to : State) → after strict to prefix ≡ Ok state → GoesOn (L to) (prefix ++ letter ∷ []) (lax state letter)) → GoesOn (L start) (first ∷ prefix ++ letter ∷ []) (lax state letter)
    go (Ok to) f e rec = further to (laxer start first to f) (lax state letter) (rec to e)
    go (Err why) f e rec = cc
