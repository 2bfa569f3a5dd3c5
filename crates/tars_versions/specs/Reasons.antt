-- Why two versions do not agree (docs/PROTOCOL.md, "Compatibility").
use Rattle.std.specs.Prelude.{ℕ, List}
use Rattle.tars_versions.specs.declared.reason_kind.ReasonKind.{ReasonKind}

-- what is wrong, and the steps that lead to it from the members
pub record Reason : Type 0 where
  pub kind : ReasonKind
  pub steps : List ℕ
