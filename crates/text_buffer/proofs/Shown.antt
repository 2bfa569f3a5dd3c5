-- What a writer that appends has after something was printed to it.
use Rattle.std.proofs.Common.{◌≡◌, ◌++◌, ℕ, List, Option, Some, None}
use Rattle.std.specs.Fmt.{AppendsText, WritesText}
use Rattle.std.proofs.lemmas.Fmt.{contents_after_writes}

-- what stands in the buffer after a text was written to it
abbrev pub Adds : List ℕ → List ℕ → List ℕ → Type 0
Adds before bytes after = after ≡ before ++ bytes

pub appends_text : (before after : List ℕ) (text : Option (List ℕ)) → WritesText Adds before text after → AppendsText before after text
appends_text before after None written = tt
appends_text before after (Some bytes) written = contents_after_writes _ (λ buffer. buffer) (λ _ _ _ adds. adds) before bytes after written
