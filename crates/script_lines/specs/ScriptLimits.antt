-- What every script keeps (docs/SCRIPTS.md, "General scripts").
use Rattle.std.specs.Prelude.{◌≡◌, ◌≤◌, ℕ, false, List, [], ◌∷◌, map, count_by}
use Rattle.std.specs.List.{list_any}
use Rattle.std.specs.Str.{bytes_eq}
use Rattle.script_lines.specs.Meanings.{is_call}
use Rattle.script_lines.specs.Scripts.{Script}
use Rattle.script_lines.specs.TextLimits.{MAX_CALLS}

-- none is there twice
abbrev pub Differ : List (List ℕ) → Type 0
Differ [] = Unit {0}
Differ (name ∷ names) = (list_any (bytes_eq name) names ≡ false) × Differ names

pub record KeepsLimits (s : Script) : Type 0 where
  pub calls : count_by (λ line. is_call line.event) s.events ≤ MAX_CALLS
  -- each rule is of another function
  pub rules : Differ (map (λ rule. rule.func) s.rules)
