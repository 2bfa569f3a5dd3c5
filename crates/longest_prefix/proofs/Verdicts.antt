-- A machine that reads a language takes exactly its words, and stops at the end of the longest prefix.
use Rattle.std.proofs.Common.{inl, inr, ◌≡◌, ◌<◌, ◌≤◌, ℕ, zero, suc, Bool, true, false, List, [], ◌∷◌, ◌++◌, length, take, Result, Ok, Err, refl, arith, subst}
use Rattle.std.proofs.lemmas.Bool.Decides.{leb_tells}
use Rattle.std.specs.List.{AllByRecursion}
use Rattle.longest_prefix.specs.Prefixes.{Begins, FaultAt}
use Rattle.longest_prefix.specs.Machine.{Course, taken, stopped, one_later, ended, run, Goes, Ends, Reads}

-- The word is in the language, or it is not, and this is the offset of its fault.
abbrev pub Verdict : {Letter Why : Type 0} → (List Letter → Type 0) → List Letter → Course Why → Type 0
Verdict L word taken = L word
Verdict L word (stopped offset why) = FaultAt L word offset × (L word → ⊥)

-- no letter is taken: whatever goes on after nothing, no word begins with this letter
refused_here : {Letter : Type 0} (L : List Letter → Type 0) (letter : Letter) (word : List Letter) → (w : List Letter) × L w → ((rest : List Letter) → L (letter ∷ rest) → ⊥) → FaultAt L (letter ∷ word) 0 × (L (letter ∷ word) → ⊥)
refused_here {Letter} L letter word some none = (record { within = omega arith; prefix = record { more = some.0; word = some.1 }; longest = longest }, none word)
  where
    longest : (longer : ℕ) → 0 < longer → longer ≤ length (letter ∷ word) → Begins L (take longer (letter ∷ word)) → ⊥
    longest zero some_more within begins = omega arith
    longest (suc longer) some_more within begins = none (take longer word ++ begins.more) begins.word

-- the word ends here, too early
short_here : {Letter : Type 0} (L : List Letter → Type 0) → (w : List Letter) × L w → (L [] → ⊥) → FaultAt L [] 0 × (L [] → ⊥)
short_here {Letter} L some none = (record { within = omega arith; prefix = record { more = some.0; word = some.1 }; longest = longest }, none)
  where
    longest : (longer : ℕ) → 0 < longer → longer ≤ 0 → Begins L (take longer []) → ⊥
    longest longer some_more within begins = omega arith

-- a letter was taken
taken_on : {Letter Why : Type 0} (L M : List Letter → Type 0) (letter : Letter) (word : List Letter) (course : Course Why) → ((w : List Letter) → L (letter ∷ w) → M w) → ((w : List Letter) → M w → L (letter ∷ w)) → Verdict M word course → Verdict L (letter ∷ word) (one_later course)
taken_on L M letter word taken there back v = back word v
taken_on {Letter} L M letter word (stopped offset why) there back v = (record { within = within; prefix = prefix; longest = longest }, λ w. v.1 (there word w))
  where
    within : suc offset ≤ length (letter ∷ word)
    within = let h = v.0.within in omega arith

    prefix : Begins L (take (suc offset) (letter ∷ word))
    prefix = record { more = v.0.prefix.more; word = back _ v.0.prefix.word }

    longest : (longer : ℕ) → suc offset < longer → longer ≤ length (letter ∷ word) → Begins L (take longer (letter ∷ word)) → ⊥
    longest zero more inside begins = omega arith
    longest (suc longer) more inside begins =
        v.0.longest longer (omega arith) (omega arith) (record { more = begins.more; word = there _ begins.word })

-- The theorem: the verdict on each word of letters that can come.
pub verdict_of : {State Letter Why : Type 0} (step : State → Letter → Result State Why) (may_end : State → Bool) (short : Why) (Fits : Letter → Type 0) (L : State → List Letter → Type 0) → Reads step may_end Fits L
    → (state : State) (word : List Letter) → AllByRecursion Fits word → Verdict (L state) word (run step may_end short state word)
verdict_of step may_end short Fits L reads state [] fits = go (may_end state) (reads.ends state)
  where
    go : (b : Bool) → Ends (L state) b → Verdict (L state) [] (ended b short)
    go true here = here
    go false gone = short_here (L state) (reads.fill state) gone
verdict_of {State} {Letter} {Why} step may_end short Fits L reads state (letter ∷ word) fits =
    go (step state letter) (λ w. reads.there state letter w) (λ w. reads.back state letter w fits.0) (λ to. verdict_of step may_end short Fits L reads to word fits.1)
  where
    go : (r : Result State Why) → ((w : List Letter) → L state (letter ∷ w) → Goes L r w) → ((w : List Letter) → Goes L r w → L state (letter ∷ w))
        → ((to : State) → Verdict (L to) word (run step may_end short to word))
        → Verdict (L state) (letter ∷ word) (elim r [ Ok to ↦ one_later (run step may_end short to word) | Err why ↦ stopped 0 why ])
    go (Ok to) there back rest = taken_on (L state) (L to) letter word _ there back (rest to)
    go (Err why) there back rest = refused_here (L state) letter word (reads.fill state) there

-- a word has one offset of a fault at most
pub one_offset : {Letter : Type 0} (L : List Letter → Type 0) (word : List Letter) (offset other : ℕ) → FaultAt L word offset → FaultAt L word other → offset ≡ other
one_offset L word offset other f g =
    elim (leb_tells (suc offset) other) [
      | inl lt ↦ absurd (f.longest other lt.1 g.within g.prefix)
      | inr le ↦ elim (leb_tells (suc other) offset) [
        | inl lt ↦ absurd (g.longest offset lt.1 f.within f.prefix)
        | inr ge ↦ omega arith
      ]
    ]

-- a word of the language is taken
pub taken_from_word : {Letter Why : Type 0} (L : List Letter → Type 0) (word : List Letter) (course : Course Why) → Verdict L word course → L word → course ≡ taken
taken_from_word L word taken v w = refl
taken_from_word L word (stopped offset why) v w = absurd (v.1 w)

-- what is taken is a word of the language
pub word_from_taken : {Letter Why : Type 0} (L : List Letter → Type 0) (word : List Letter) (course : Course Why) → Verdict L word course → course ≡ taken → L word
word_from_taken {Letter} {Why} L word course v e = let P : Course Why → Type 0 = Verdict L word in subst P e v

-- where it stops is the offset of the fault
pub fault_from_stopped : {Letter Why : Type 0} (L : List Letter → Type 0) (word : List Letter) (course : Course Why) (offset : ℕ) (why : Why) → Verdict L word course → course ≡ stopped offset why → FaultAt L word offset × (L word → ⊥)
fault_from_stopped {Letter} {Why} L word course offset why v e = let P : Course Why → Type 0 = Verdict L word in subst P e v
