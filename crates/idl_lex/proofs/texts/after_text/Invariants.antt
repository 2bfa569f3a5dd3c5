use Rattle.std.proofs.Common.{◌≡◌, List, ℕ, ◌∷◌, length}
use Rattle.idl_lex.specs.Texts.{UnitsSpell}
use Rattle.idl_lex.proofs.texts.after_text.Given as goal

abbrev pub invariant-units : goal.invariant-units
invariant-units l = (spelled : List ℕ) × (inside : List ℕ) × (l.bytes ≡ 34 ∷ inside) × UnitsSpell spelled inside l.left

abbrev pub decreases-units : goal.decreases-units
decreases-units l = length l.left
