-- What is said of the token that is found at the start.
use Rattle.std.proofs.Common.{◌≡◌, ℕ, ◌≤◌, List, ◌++◌, length, Option, Some, None}
use Rattle.idl_lex.specs.declared.kind.Kind.{Kind}
use Rattle.idl_lex.specs.Forms.{IsForm, is_sound}
use Rattle.idl_lex.specs.LexSteps.{Candidate, sound_candidate}

-- the token found leaves no more than this rest, and is of this kind if it leaves as much
abbrev pub Dominates : Option Candidate → Kind → List ℕ → Type 0
Dominates None kind rest = ⊥
Dominates (Some found) kind rest = (length found.2 ≤ length rest) × (length found.2 ≡ length rest → found.0 ≡ kind)

-- the token found stands at the start of the bytes
pub record IsFound (found : Candidate) (bytes : List ℕ) : Type 0 where
  pub word : List ℕ
  pub prefix : bytes ≡ word ++ found.2
  pub form : IsForm found.0 word
  pub sound : is_sound found.0 word found.2 ≡ sound_candidate found

abbrev pub Finds : Option Candidate → List ℕ → Type 0
Finds None bytes = Unit {0}
Finds (Some found) bytes = IsFound found bytes
