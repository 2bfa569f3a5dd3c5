-- The tokens of the pieces of a schema derive a tree that says the schema.
use Rattle.std.proofs.Common.{◌≡◌, ℕ, Option, None, List, [], ◌++◌, length, refl, sym, ap, subst, append-nil, arith}
use Rattle.tars_model.specs.Declarations.{Declared}
use Rattle.tars_model.specs.Schemas.{IsSchema}
use Rattle.idl_parse.specs.Grammar.{nesting_limit, EntryOf, IsFile}
use Rattle.idl_parse.specs.Rules.{Many}
use Rattle.idl_lex.specs.declared.token.Token.{Token}
use Rattle.idl_parse.specs.declared.tree.module.Entry.{Entry}
use Rattle.canonical_tree.specs.Pieces.{Piece, spell, tokens_at, block_pieces, pieces}
use Rattle.canonical_tree.specs.Says.{EntriesSay}
use Rattle.canonical_tree.proofs.DeclFits.{decl_fits, structs_named, enums_named}
use Rattle.canonical_tree.proofs.Deriving.Blocks.{blocks_derive}
use Rattle.canonical_tree.proofs.Deriving.Kit.{Placed, Derived, Derives}
use Rattle.canonical_tree.proofs.Deriving.Types.{IsNamed}
pub mod Kit
pub mod Words
pub mod Texts
pub mod Types
pub mod Literals
pub mod Members
pub mod Funcs
pub mod Items
pub mod Decls
pub mod Blocks

-- pieces that are the whole text
whole_text : (ps : List Piece) → Placed (spell ps) 0 ps
whole_text ps = record { before = []; after = []; whole = sym (append-nil (spell ps)); offset = refl }

pieces_derive : (d : Declared) → IsSchema d → Derives (spell (pieces d)) (Many (EntryOf nesting_limit)) (λ tree. EntriesSay (spell (pieces d)) d tree d.order) (pieces d)
unfolding pieces
pieces_derive d schema =
    blocks_derive (spell (block_pieces d None d.order)) d 16 (omega arith) (record { structs = structs_named d schema; enums = enums_named d schema }) d.order (decl_fits d schema)

pub derives : (d : Declared) → IsSchema d → (entries : List Entry) × IsFile nesting_limit (tokens_at 0 (pieces d)) entries × EntriesSay (spell (pieces d)) d entries d.order
derives d schema =
    let whole = (pieces_derive d schema).derive 0 (whole_text (pieces d)) in
    (whole.tree, subst (λ tokens. Many (EntryOf nesting_limit) tokens whole.tree []) (append-nil (tokens_at 0 (pieces d))) (whole.derived []), whole.tells)
