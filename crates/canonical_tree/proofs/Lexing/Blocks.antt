-- The tokens of blocks are ended by what follows them: the canonical text lexes to the tokens of its pieces.
use Rattle.std.proofs.Common.{ℕ, Option, Some, None, List, [], ◌∷◌, ◌++◌, length, refl, subst, inl, inr, arith}
use Rattle.std.proofs.lemmas.Bool.{cases_Bool}
use Rattle.std.specs.List.{AllByRecursion}
use Rattle.std.specs.Str.{bytes_eq}
use Rattle.tars_model.specs.Declarations.{Declared, members_at}
use Rattle.tars_model.specs.Names.{IsName}
use Rattle.tars_model.specs.Schemas.{NamesMember, IsSchema}
use Rattle.tars_model.specs.declared.decl.Decl.{Decl}
use Rattle.tars_model.specs.declared.decl.Decl.TheVariants as decl
use Rattle.canonical_text.specs.Canonical.{decl_home, canonical}
use Rattle.idl_lex.specs.Tokens.{Tokens}
use Rattle.idl_lex.specs.declared.keyword.Keyword.TheVariants as words
use Rattle.idl_lex.specs.declared.sign.Sign.TheVariants as signs
use Rattle.canonical_tree.specs.Pieces.{Piece, spell, tokens_at, mark, ident, line_end, space, decl_pieces, block_start_pieces, block_close, block_end_pieces, turn_pieces, block_pieces, pieces}
use Rattle.canonical_tree.proofs.DeclFits.{DeclFits, StructNamed, decl_fits, structs_named, enums_named, all_at}
use Rattle.canonical_tree.proofs.Deriving.Blocks.{home_named}
use Rattle.canonical_tree.proofs.Deriving.Decls.{key_struct, member_named}
use Rattle.canonical_tree.proofs.Deriving.Types.{IsNamed}
use Rattle.canonical_tree.proofs.Lexing.DeclSpelling.{pieces_spell}
use Rattle.canonical_tree.proofs.Lexing.Ends.{Ended, ended_append, pieces_lex}
use Rattle.canonical_tree.proofs.Lexing.Lines.{struct_ends, enum_ends, const_ends, key_ends, interface_ends}
use Rattle.canonical_tree.proofs.Lexing.Parts.{word_ends, mark_ends, ident_ends}
use Rattle.canonical_tree.proofs.Lists.{each_of}

module _ (d : Declared) (named : IsNamed d) where
  decl_ends : (next : Decl) → DeclFits d next → (after : List Piece) → Ended (decl_pieces d next) after
  unfolding decl_pieces
  decl_ends (decl.Struct k) (s, found, (e, before, fits)) after = rw found (struct_ends d e named before s fits after)
  decl_ends (decl.Enum k) (desc, found, (e, before, fits)) after = rw found (enum_ends d e named before desc fits after)
  decl_ends (decl.Const k) (c, found, (e, before, fits)) after = rw found (const_ends d e named before c fits after)
  decl_ends (decl.Interface k) (i, found, (e, before, fits)) after = rw found (interface_ends d e named before i fits after)
  decl_ends (decl.Key n) (k, found, (e, before, fits)) after =
      let of = key_struct d e k.of before fits.struct in
      let s = all_at StructNamed d.structs k.of of.0 named.structs of.1 in
      let names = each_of (NamesMember (members_at e k.of)) IsName (λ name names. member_named of.0.members name s.members (subst (λ ms. NamesMember ms name) of.2 names)) k.members fits.members in
      rw found (key_ends d named k of.0 of.1 names after)

  start_ends : (home : List ℕ) → IsName home → (after : List Piece) → Ended (block_start_pieces home) after
  unfolding block_start_pieces
  start_ends home is after =
      let brace = mark signs.OpenBrace ∷ line_end ∷ [] in
      word_ends words.Module (space ∷ ident home ∷ line_end ∷ brace) after refl
      (refl, ident_ends home (line_end ∷ brace) after is refl (refl, mark_ends signs.OpenBrace (line_end ∷ []) after (refl, tt)))

  close_ends : (after : List Piece) → Ended block_close after
  close_ends after = mark_ends signs.CloseBrace (mark signs.Semicolon ∷ line_end ∷ []) after (mark_ends signs.Semicolon (line_end ∷ []) after (refl, tt))

  end_ends : (block : Option (List ℕ)) (after : List Piece) → Ended (block_end_pieces block) after
  end_ends None after = tt
  end_ends (Some home) after = close_ends after

  turn_ends : (block : Option (List ℕ)) (home : List ℕ) → IsName home → (after : List Piece) → Ended (turn_pieces block home) after
  unfolding turn_pieces
  turn_ends None home is after = start_ends home is after
  turn_ends (Some block) home is after =
      elim (cases_Bool (bytes_eq block home)) [
        | inl same ↦ rw same tt
        | inr other ↦ rw other (ended_append block_close (block_start_pieces home) after (close_ends (block_start_pieces home ++ after)) (start_ends home is after))
      ]

  blocks_end : (block : Option (List ℕ)) (decls : List Decl) → AllByRecursion (DeclFits d) decls → (after : List Piece) → Ended (block_pieces d block decls) after
  unfolding block_pieces
  blocks_end block [] all after = end_ends block after
  blocks_end block (next ∷ decls) all after =
      let home = decl_home d next in
      let rest = block_pieces d (Some home) decls in
      ended_append (turn_pieces block home ++ decl_pieces d next) rest after
      (ended_append (turn_pieces block home) (decl_pieces d next) (rest ++ after) (turn_ends block home (home_named d next named all.0) (decl_pieces d next ++ (rest ++ after)))
      (decl_ends next all.0 (rest ++ after)))
      (blocks_end (Some home) decls all.1 after)

-- the canonical text has these tokens
pub lexes : (d : Declared) → IsSchema d → Tokens (canonical d) (tokens_at 0 (pieces d))
unfolding pieces
lexes d schema =
    let named : IsNamed d = record { structs = structs_named d schema; enums = enums_named d schema } in
    subst (λ (text : List ℕ). Tokens text (tokens_at 0 (pieces d))) (pieces_spell d schema)
    (pieces_lex (length (spell (pieces d))) 0 (pieces d) (blocks_end d named None d.order (decl_fits d schema) []) (omega arith))
