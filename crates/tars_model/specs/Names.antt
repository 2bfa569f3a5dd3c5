-- Names that may be declared (docs/IDL.md, "Tokens" and "Rules").
use Rattle.std.specs.Prelude.{◌≡◌, ◌≢◌, ◌==◌, ◌||◌, ℕ, Bool, true, false, List, [], ◌∷◌, ◌++◌, codes}
use Rattle.std.specs.List.{All, list_all}
use Rattle.std.specs.Char.{is_ascii_alphabetic, is_ascii_alphanumeric}

abbrev pub keywords : List (List ℕ)
keywords =
    codes "void" ∷ codes "struct" ∷ codes "bool" ∷ codes "byte" ∷ codes "short" ∷ codes "int" ∷ codes "long" ∷ codes "float"
    ∷ codes "double" ∷ codes "string" ∷ codes "vector" ∷ codes "map" ∷ codes "key" ∷ codes "routekey" ∷ codes "module"
    ∷ codes "interface" ∷ codes "out" ∷ codes "require" ∷ codes "optional" ∷ codes "false" ∷ codes "true" ∷ codes "enum"
    ∷ codes "const" ∷ codes "unsigned" ∷ []

-- a letter begins the bytes
abbrev pub begins_word : List ℕ → Bool
begins_word [] = false
begins_word (b ∷ rest) = is_ascii_alphabetic b

-- a letter, then letters, digits and `_`, and no keyword
pub record IsIdentifier (word : List ℕ) : Type 0 where
  pub letter : begins_word word ≡ true
  pub bytes : list_all (λ b. is_ascii_alphanumeric b || b == 95) word ≡ true
  pub no_keyword : All (λ keyword. word ≢ keyword) keywords

-- an identifier in which `tars_` does not stand
pub record IsName (word : List ℕ) : Type 0 where
  pub identifier : IsIdentifier word
  pub not_reserved : (before after : List ℕ) → word ≢ before ++ (codes "tars_" ++ after)

-- no two are the same
abbrev pub AllDiffer : List (List ℕ) → Type 0
AllDiffer [] = Unit {0}
AllDiffer (name ∷ names) = All (λ other. other ≢ name) names × AllDiffer names
