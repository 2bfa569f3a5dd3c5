-- The tokens of names, types and literals are ended by what follows them.
use Rattle.std.proofs.Common.{◌≡◌, ℕ, ℤ, true, false, List, [], ◌∷◌, ◌++◌, length, refl, inl, inr}
use Rattle.std.proofs.lemmas.Bool.{cases_Bool}
use Rattle.std.specs.Fmt.{signed_decimal}
use Rattle.std.specs.Str.{bytes_eq}
use Rattle.tars_model.specs.Declarations.{Declared}
use Rattle.tars_model.specs.Names.{IsName}
use Rattle.tars_model.specs.Schemas.{IsTypeIn}
use Rattle.tars_model.specs.Types.{TyLayer, IsType, plain, enum, struct, vector, map, is_plain}
use Rattle.tars_model.specs.declared.ty.Ty.{Ty, out-Ty}
use Rattle.tars_model.specs.declared.ty.Ty.TheOpen as ty
use Rattle.tars_model.specs.declared.value.Pair.{Pair}
use Rattle.tars_model.specs.declared.value.Value.{Value, out-Value}
use Rattle.tars_model.specs.declared.value.Value.TheOpen as value
use Rattle.canonical_text.specs.Canonical.{quoted}
use Rattle.idl_lex.specs.Bytes.{begins}
use Rattle.idl_lex.specs.declared.keyword.Keyword.{Keyword}
use Rattle.idl_lex.specs.declared.keyword.Keyword.TheVariants as words
use Rattle.idl_lex.specs.declared.sign.Sign.{Sign}
use Rattle.idl_lex.specs.declared.sign.Sign.TheVariants as signs
use Rattle.canonical_tree.specs.Pieces.{Piece, spell, word, mark, ident, number, space, name_pieces, type_pieces, literal_piece, literal_pieces}
use Rattle.canonical_tree.proofs.DeclFits.{IsPrefixOf, StructNamed, EnumNamed, all_at}
use Rattle.canonical_tree.proofs.Deriving.Literals.{HasLiteral}
use Rattle.canonical_tree.proofs.Deriving.Texts.{quoted_spells}
use Rattle.canonical_tree.proofs.Deriving.Words.{IsLong}
use Rattle.canonical_tree.proofs.Deriving.Types.{IsNamed, there, type_grows, longer, pieces_at, vector_pieces, map_pieces}
use Rattle.canonical_tree.proofs.Lexing.Ends.{Ended, ended_append}
use Rattle.canonical_tree.proofs.Lexing.Lexemes.{ends_word, keyword_lexes, name_lexes, sign_lexes, text_lexes, number_lexes}

-- what follows ends a word or a number
abbrev pub EndsWord : List Piece → Type 0
EndsWord after = begins ends_word (spell after) ≡ true

-- ---- single pieces before others

pub word_ends : (keyword : Keyword) (ps after : List Piece) → EndsWord (ps ++ after) → Ended ps after → Ended (word keyword ∷ ps) after
word_ends keyword ps after ends rest = (keyword_lexes keyword, ends, rest)

pub mark_ends : (sign : Sign) (ps after : List Piece) → Ended ps after → Ended (mark sign ∷ ps) after
mark_ends sign ps after rest = (sign_lexes sign, tt, rest)

pub ident_ends : (name : List ℕ) (ps after : List Piece) → IsName name → EndsWord (ps ++ after) → Ended ps after → Ended (ident name ∷ ps) after
ident_ends name ps after is ends rest = (name_lexes name is, ends, rest)

pub number_ends : (n : ℤ) (ps after : List Piece) → IsLong n → EndsWord (ps ++ after) → Ended ps after → Ended (number (signed_decimal n) ∷ ps) after
number_ends n ps after long ends rest = (number_lexes n long, ends, rest)

-- ---- types

pub name_ends : (home own name : List ℕ) (after : List Piece) → IsName own → IsName name → EndsWord after → Ended (name_pieces home own name) after
unfolding name_pieces
name_ends home own name after is_own is_name ends =
    elim (cases_Bool (bytes_eq own home)) [
      | inl same ↦ rw same (ident_ends name [] after is_name ends tt)
      | inr other ↦ rw other (ident_ends own (mark signs.PathSep ∷ ident name ∷ []) after is_own refl (mark_ends signs.PathSep (ident name ∷ []) after (ident_ends name [] after is_name ends tt)))
    ]

module _ (d : Declared) (home : List ℕ) where
  unsigned_ends : (keyword : Keyword) (after : List Piece) → EndsWord after → Ended (word words.Unsigned ∷ space ∷ word keyword ∷ []) after
  unsigned_ends keyword after ends = word_ends words.Unsigned (space ∷ word keyword ∷ []) after refl (refl, word_ends keyword [] after ends tt)

  plain_ends : (t : Ty) (l : TyLayer) (after : List Piece) → out-Ty t ≡ l → is_plain l ≡ true → EndsWord after → Ended (type_pieces d home t) after
  plain_ends t ty.Bool after is p ends = rw (pieces_at [] d home t ty.Bool is) (word_ends words.Bool [] after ends tt)
  plain_ends t ty.Byte after is p ends = rw (pieces_at [] d home t ty.Byte is) (word_ends words.Byte [] after ends tt)
  plain_ends t ty.Short after is p ends = rw (pieces_at [] d home t ty.Short is) (word_ends words.Short [] after ends tt)
  plain_ends t ty.Int after is p ends = rw (pieces_at [] d home t ty.Int is) (word_ends words.Int [] after ends tt)
  plain_ends t ty.Long after is p ends = rw (pieces_at [] d home t ty.Long is) (word_ends words.Long [] after ends tt)
  plain_ends t ty.Text after is p ends = rw (pieces_at [] d home t ty.Text is) (word_ends words.String [] after ends tt)
  plain_ends t ty.UByte after is p ends = rw (pieces_at [] d home t ty.UByte is) (unsigned_ends words.Byte after ends)
  plain_ends t ty.UShort after is p ends = rw (pieces_at [] d home t ty.UShort is) (unsigned_ends words.Short after ends)
  plain_ends t ty.UInt after is p ends = rw (pieces_at [] d home t ty.UInt is) (unsigned_ends words.Int after ends)
  plain_ends t (ty.Enum k) after is p ends = absurd cc
  plain_ends t (ty.Struct k) after is p ends = absurd cc
  plain_ends t (ty.Vector of) after is p ends = absurd cc
  plain_ends t (ty.Map key to) after is p ends = absurd cc

  all_end : {t : Ty} (after : List Piece) → IsNamed d → IsType (length d.enums) (length d.structs) t → EndsWord after → Ended (type_pieces d home t) after
  all_end after named (plain {t = t} p) ends = plain_ends t (out-Ty t) after refl p ends
  all_end after named (enum {t = t} {number = k} is less) ends =
      let e = there d.enums k less in
      let names = all_at EnumNamed d.enums k e.0 named.enums e.1 in
      rw (pieces_at [] d home t (ty.Enum k) is, e.1) (name_ends home e.0.«module» e.0.name after names.home names.name ends)
  all_end after named (struct {t = t} {number = k} is less) ends =
      let s = there d.structs k less in
      let names = all_at StructNamed d.structs k s.0 named.structs s.1 in
      rw (pieces_at [] d home t (ty.Struct k) is, s.1) (name_ends home s.0.«module» s.0.name after names.home names.name ends)
  all_end after named (vector {t = t} {of = of} is other inside) ends =
      let close = mark signs.Greater ∷ [] in
      rw (vector_pieces [] d home t of is)
      (word_ends words.Vector (mark signs.Less ∷ type_pieces d home of ++ close) after refl
      (mark_ends signs.Less (type_pieces d home of ++ close) after
      (ended_append (type_pieces d home of) close after (all_end (close ++ after) named inside refl) (mark_ends signs.Greater [] after tt))))
  all_end after named (map {t = t} {key = key} {value = to} is good keys values) ends =
      let close = mark signs.Greater ∷ [] in
      let second = mark signs.Comma ∷ space ∷ (type_pieces d home to ++ close) in
      rw (map_pieces [] d home t key to is)
      (word_ends words.Map (mark signs.Less ∷ (type_pieces d home key ++ second)) after refl
      (mark_ends signs.Less (type_pieces d home key ++ second) after
      (ended_append (type_pieces d home key) second after (all_end (second ++ after) named keys refl)
      (mark_ends signs.Comma (space ∷ (type_pieces d home to ++ close)) after
      (refl, ended_append (type_pieces d home to) close after (all_end (close ++ after) named values refl) (mark_ends signs.Greater [] after tt))))))

  pub type_ends : (e : Declared) (t : Ty) (after : List Piece) → IsNamed d → IsPrefixOf e d → IsTypeIn e t → EndsWord after → Ended (type_pieces d home t) after
  type_ends e t after named before is ends =
      all_end after named (type_grows (length d.enums) (length d.structs) (longer e.enums d.enums before.enums) (longer e.structs d.structs before.structs) is.is_type) ends

-- ---- literals

layer_ends : (l : value.Value-F Value Pair) (after : List Piece) → HasLiteral l → EndsWord after → Ended (literal_piece l) after
layer_ends (value.Bool true) after has ends = word_ends words.True [] after ends tt
layer_ends (value.Bool false) after has ends = word_ends words.False [] after ends tt
layer_ends (value.Num n) after has ends = (number_lexes n has, ends, tt)
layer_ends (value.Text bytes) after has ends = (text_lexes bytes (quoted bytes) (quoted_spells bytes has), tt, tt)
layer_ends (value.Blob bytes) after has ends = absurd has
layer_ends (value.List vs) after has ends = absurd has
layer_ends (value.Map ps) after has ends = absurd has
layer_ends (value.Struct vs) after has ends = absurd has

pub literal_ends : (v : Value) (after : List Piece) → HasLiteral (out-Value v) → EndsWord after → Ended (literal_pieces v) after
unfolding literal_pieces
literal_ends v after has ends = layer_ends (out-Value v) after has ends
