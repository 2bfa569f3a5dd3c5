-- The canonical text of a schema is a file, whose tree says the schema.
use Rattle.std.proofs.Common.{ℕ, List, subst}
use Rattle.tars_model.specs.Declarations.{Declared}
use Rattle.tars_model.specs.Schemas.{IsSchema}
use Rattle.canonical_text.specs.Canonical.{canonical}
use Rattle.idl_parse.specs.Files.{IsFileText}
use Rattle.idl_parse.specs.declared.tree.module.Entry.{Entry}
use Rattle.canonical_tree.specs.Pieces.{tokens_at, pieces}
use Rattle.canonical_tree.specs.Says.{EntriesSay}
use Rattle.canonical_tree.proofs.Deriving.{derives}
use Rattle.canonical_tree.proofs.Lexing.Blocks.{lexes}
use Rattle.canonical_tree.proofs.Lexing.DeclSpelling.{pieces_spell}

pub canonical_reads : (d : Declared) → IsSchema d → (entries : List Entry) × IsFileText (canonical d) entries × EntriesSay (canonical d) d entries d.order
canonical_reads d schema =
    let derived = derives d schema in (
      derived.0,
      record { tokens = tokens_at 0 (pieces d); are = lexes d schema; derived = derived.1 },
      subst (λ (text : List ℕ). EntriesSay text d derived.0 d.order) (pieces_spell d schema) derived.2,
    )
