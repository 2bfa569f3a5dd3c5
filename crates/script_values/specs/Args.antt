-- The arguments of a call in a script (docs/SCRIPTS.md, "Scripts").
use Rattle.std.specs.Prelude.{◌≡◌, ℕ, ◌==◌, if◌then◌else◌, List, [], ◌∷◌}
use Rattle.tars_model.specs.Declarations.{Declared}
use Rattle.tars_model.specs.declared.member.Member.{Member}
use Rattle.tars_model.specs.declared.value.Value.{Value}
use Rattle.value_text.specs.Spelling.{Spells}

-- a space
abbrev pub SPACE : ℕ
SPACE = 32

-- what stands after any spaces
abbrev pub past_spaces : List ℕ → List ℕ
past_spaces [] = []
past_spaces (b ∷ rest) = if b == SPACE then past_spaces rest else b ∷ rest

-- a space comes next, or nothing
abbrev pub IsApart : List ℕ → Type 0
IsApart [] = Unit {0}
IsApart (b ∷ rest) = b ≡ SPACE

-- the text says these values, one of each member's type in value text, with spaces between them and at the text's ends
abbrev pub SaysArgs : Declared → List Member → List Value → List ℕ → Type 0
SaysArgs d [] [] text = past_spaces text ≡ []
SaysArgs d (m ∷ ms) (v ∷ vs) text = (rest : List ℕ) × Spells d m.ty v (past_spaces text) rest × IsApart rest × SaysArgs d ms vs rest
SaysArgs d [] (v ∷ vs) text = ⊥
SaysArgs d (m ∷ ms) [] text = ⊥
