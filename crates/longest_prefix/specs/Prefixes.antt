-- Prefixes of the words of a language, and the longest one that a word begins with.
use Rattle.std.specs.Prelude.{ℕ, ◌<◌, ◌≤◌, List, ◌++◌, length, take}

-- some word of the language goes on after this prefix
pub record Begins {Letter : Type 0} (L : List Letter → Type 0) (prefix : List Letter) : Type 0 where
  pub more : List Letter
  pub word : L (prefix ++ more)

-- The longest prefix of the word that some word of the language goes on after has this length: that prefix
-- does go on, and no longer one does.
pub record FaultAt {Letter : Type 0} (L : List Letter → Type 0) (word : List Letter) (offset : ℕ) : Type 0 where
  pub within : offset ≤ length word
  pub prefix : Begins L (take offset word)
  pub longest : (longer : ℕ) → offset < longer → longer ≤ length word → Begins L (take longer word) → ⊥
