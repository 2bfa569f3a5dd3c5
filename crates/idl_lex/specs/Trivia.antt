-- White space and comments (docs/IDL.md, "Tokens").
use Rattle.std.specs.Prelude.{◌≡◌, ◌≢◌, ℕ, true, not, List, ◌∷◌, ◌++◌, codes}
use Rattle.std.specs.List.{list_all}
use Rattle.idl_lex.specs.Bytes.{is_white, is_feed, IsCutOff}

-- `*/` stands nowhere in the bytes
abbrev pub HasNoClose : List ℕ → Type 0
HasNoClose bytes = (prefix back : List ℕ) → bytes ≢ prefix ++ (codes "*/" ++ back)

-- a white byte or a comment at the start, and what stands after it
pub data IsTrivia : List ℕ → List ℕ → Type 0 where
  white : {b : ℕ} {rest : List ℕ} → is_white b ≡ true → IsTrivia (b ∷ rest) rest
  -- `//` up to the line feed or the end
  line : {bytes rest : List ℕ} (inside : List ℕ) → bytes ≡ codes "//" ++ (inside ++ rest) → list_all (λ b. not (is_feed b)) inside ≡ true → IsCutOff rest → IsTrivia bytes rest
  -- `/*` up to the next `*/`
  block : {bytes rest : List ℕ} (inside : List ℕ) → bytes ≡ codes "/*" ++ (inside ++ (codes "*/" ++ rest)) → HasNoClose inside → IsTrivia bytes rest
