-- The canonical text of a schema is a file without a fault, which declares that schema again.
use Rattle.std.proofs.Common.{◌≡◌, ℕ, List, sym, subst}
use Rattle.std.specs.Prelude.{Result, Ok, Err, IfOk}
use Rattle.canonical_text.specs.Canonical.{canonical}
use Rattle.canonical_tree.proofs.Canonical.{canonical_reads}
use Rattle.idl_check.proofs.SchemaSaid.{says_schema}
use Rattle.idl_check.specs.Printed.{DeclaresAlone}
use Rattle.tars_model.specs.Declarations.{Declared}
use Rattle.tars_model.specs.Schemas.{IsSchema}

pub canonical_declares : (d : Declared) → IsSchema d → DeclaresAlone (canonical d) d
canonical_declares d schema =
    let read = canonical_reads d schema in
    (read.0, read.1, λ name. says_schema name (canonical d) d read.0 schema read.2)

-- so does what is printed, if it is
pub printed_declares : {X E : Type 0} (bytes : X → List ℕ) (d : Declared) → IsSchema d → (r : Result X E) → IfOk r (λ t. bytes t ≡ canonical d) → IfOk r (λ t. DeclaresAlone (bytes t) d)
printed_declares bytes d schema (Ok t) is = subst (λ (text : List ℕ). DeclaresAlone text d) (sym is) (canonical_declares d schema)
printed_declares bytes d schema (Err e) is = tt
