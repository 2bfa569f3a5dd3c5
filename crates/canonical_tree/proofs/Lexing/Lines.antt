-- The tokens of lines, declarations and blocks are ended by what follows them.
use Rattle.std.proofs.Common.{◌≡◌, ℕ, Bool, true, false, Option, Some, None, List, [], ◌∷◌, ◌++◌, refl, sym, inl, inr, subst, arith, append_assoc, slice_get, flat_map}
use Rattle.std.proofs.lemmas.Bool.{cases_Bool}
use Rattle.std.specs.Fmt.{signed_decimal}
use Rattle.std.specs.List.{AllByRecursion}
use Rattle.tars_model.specs.Declarations.{Declared}
use Rattle.tars_model.specs.Names.{IsName}
use Rattle.tars_model.specs.Schemas.{IsTypeIn, MemberFits, StructFits, EnumFits, ConstFits, FuncFits, IsReturned, InterfaceFits}
use Rattle.tars_model.specs.Values.{is_signed}
use Rattle.tars_model.specs.declared.const_desc.ConstDesc.{ConstDesc}
use Rattle.tars_model.specs.declared.enum_desc.EnumDesc.{EnumDesc}
use Rattle.tars_model.specs.declared.enum_desc.Item.{Item}
use Rattle.tars_model.specs.declared.func_desc.FuncDesc.{FuncDesc}
use Rattle.tars_model.specs.declared.func_desc.Param.{Param}
use Rattle.tars_model.specs.declared.interface_desc.InterfaceDesc.{InterfaceDesc}
use Rattle.tars_model.specs.declared.key_desc.KeyDesc.{KeyDesc}
use Rattle.tars_model.specs.declared.member.Member.{Member}
use Rattle.tars_model.specs.declared.struct_desc.StructDesc.{StructDesc}
use Rattle.tars_model.specs.declared.ty.Ty.{Ty, out-Ty}
use Rattle.tars_model.specs.declared.value.Value.{out-Value}
use Rattle.canonical_text.specs.Canonical.{is_absent}
use Rattle.idl_lex.specs.declared.keyword.Keyword.{Keyword}
use Rattle.idl_lex.specs.declared.keyword.Keyword.TheVariants as words
use Rattle.idl_lex.specs.declared.sign.Sign.TheVariants as signs
use Rattle.canonical_tree.specs.Pieces.{Piece, mark, ident, number, space, line_end, indent, type_pieces, literal_pieces, requirement_piece, default_pieces, member_pieces, item_pieces, direction_pieces, param_pieces, params_pieces, return_pieces, func_pieces, opening_pieces, closing_pieces, struct_lines, enum_lines, const_line, key_line, interface_lines, pieces}
use Rattle.canonical_tree.proofs.DeclFits.{IsPrefixOf, StructNamed, all_at}
use Rattle.canonical_tree.proofs.Deriving.Literals.{literal_has, written_has, int_long}
use Rattle.canonical_tree.proofs.Deriving.Types.{IsNamed}
use Rattle.canonical_tree.proofs.Lists.{each_of, each_of_both}
use Rattle.canonical_tree.proofs.Lexing.Ends.{Ended, ended_append}
use Rattle.canonical_tree.proofs.Lexing.Lexemes.{decimal_lexes}
use Rattle.canonical_tree.proofs.Lexing.Parts.{EndsWord, word_ends, mark_ends, ident_ends, number_ends, type_ends, literal_ends}

-- each of a list, whatever follows it
pub each_ends : {T : Type 0} (pieces : T → List Piece) (xs : List T) (after : List Piece) → AllByRecursion (λ x. (after : List Piece) → Ended (pieces x) after) xs → Ended (flat_map pieces xs) after
each_ends pieces [] after all = tt
each_ends pieces (x ∷ xs) after all = ended_append (pieces x) (flat_map pieces xs) after (all.0 (flat_map pieces xs ++ after)) (each_ends pieces xs after all.1)

module _ (d e : Declared) (named : IsNamed d) (before : IsPrefixOf e d) where
  -- ---- members

  requirement_ends : (b : Bool) (ps after : List Piece) → EndsWord (ps ++ after) → Ended ps after → Ended (requirement_piece b ∷ ps) after
  requirement_ends true ps after ends rest = word_ends words.Require ps after ends rest
  requirement_ends false ps after ends rest = word_ends words.Optional ps after ends rest

  default_ends : (m : Member) (after : List Piece) → MemberFits e m → EndsWord after → Ended (default_pieces d m) after
  unfolding default_pieces
  default_ends m after fits ends =
      elim (cases_Bool (is_absent d (out-Ty m.ty) (out-Value m.default))) [
        | inl none ↦ rw none tt
        | inr written ↦
            rw written (
              refl,
              mark_ends signs.Equals (space ∷ literal_pieces m.default) after
                  (refl, literal_ends m.default after (written_has e d m.ty m.default before fits.ty.is_type fits.default written) ends),
            )
      ]

  -- the default and what follows it end the name
  name_stops : (m : Member) (after : List Piece) → EndsWord after → EndsWord (default_pieces d m ++ after)
  unfolding default_pieces
  name_stops m after ends =
      elim (cases_Bool (is_absent d (out-Ty m.ty) (out-Value m.default))) [
        | inl none ↦ rw none ends
        | inr written ↦ rw written refl
      ]

  member_ends : (home : List ℕ) (m : Member) → MemberFits e m → (after : List Piece) → Ended (member_pieces d home m) after
  unfolding member_pieces
  member_ends home m fits after =
      let close = mark signs.Semicolon ∷ line_end ∷ [] in
      let named_part = space ∷ ident m.name ∷ default_pieces d m in
      let typed = (type_pieces d home m.ty ++ named_part) ++ close in (
        refl,
        (
          decimal_lexes m.tag (omega (arith, fits.tag)),
          refl,
          (
            refl,
            requirement_ends m.require (space ∷ typed) after refl (
              refl,
              ended_append (type_pieces d home m.ty ++ named_part) close after
                  (ended_append (type_pieces d home m.ty) named_part (close ++ after) (type_ends d home e m.ty (named_part ++ (close ++ after)) named before fits.ty refl)
                  (refl, ident_ends m.name (default_pieces d m) (close ++ after) fits.name (name_stops m (close ++ after) refl) (default_ends m (close ++ after) fits refl)))
                  (mark_ends signs.Semicolon (line_end ∷ []) after (refl, tt)),
            ),
          ),
        ),
      )

  -- ---- enumerators

  item_ends : (i : Item) → IsName i.name → is_signed 31 i.number ≡ true → (after : List Piece) → Ended (item_pieces i) after
  unfolding item_pieces
  item_ends i is int after =
      let close = mark signs.Comma ∷ line_end ∷ [] in
      let numbered = number (signed_decimal i.number) ∷ close in (
        refl,
        ident_ends i.name (space ∷ mark signs.Equals ∷ space ∷ numbered) after is refl (
          refl,
          mark_ends signs.Equals (space ∷ numbered) after
              (refl, number_ends i.number close after (int_long i.number int) refl (mark_ends signs.Comma (line_end ∷ []) after (refl, tt))),
        ),
      )

  -- ---- functions

  direction_ends : (b : Bool) (ps after : List Piece) → Ended ps after → Ended (direction_pieces b ++ ps) after
  direction_ends true ps after rest = word_ends words.Out (space ∷ ps) after refl (refl, rest)
  direction_ends false ps after rest = rest

  param_ends : (home : List ℕ) (p : Param) → IsName p.name → IsTypeIn e p.ty → (after : List Piece) → EndsWord after → Ended (param_pieces d home p) after
  unfolding param_pieces
  param_ends home p is typed after ends =
      let named_part = space ∷ ident p.name ∷ [] in
      ended_append (direction_pieces p.out ++ type_pieces d home p.ty) named_part after
      (direction_ends p.out (type_pieces d home p.ty) (named_part ++ after) (type_ends d home e p.ty (named_part ++ after) named before typed refl))
      (refl, ident_ends p.name [] after is ends tt)

  abbrev GoodParam : Param → Type 0
  GoodParam p = IsName p.name × IsTypeIn e p.ty

  abbrev next_param : List ℕ → Param → List Piece
  next_param home p = mark signs.Comma ∷ space ∷ param_pieces d home p

  -- what follows a parameter: the next one, or what ends the list
  next_stops : (home : List ℕ) (ps : List Param) (after : List Piece) → EndsWord after → EndsWord (flat_map (next_param home) ps ++ after)
  next_stops home [] after ends = ends
  next_stops home (p ∷ ps) after ends = refl

  others_end : (home : List ℕ) (ps : List Param) (after : List Piece) → AllByRecursion GoodParam ps → EndsWord after → Ended (flat_map (next_param home) ps) after
  others_end home [] after all ends = tt
  others_end home (p ∷ ps) after all ends =
      mark_ends signs.Comma (space ∷ (param_pieces d home p ++ flat_map (next_param home) ps)) after (
        refl,
        ended_append (param_pieces d home p) (flat_map (next_param home) ps) after
            (param_ends home p all.0.0 all.0.1 (flat_map (next_param home) ps ++ after) (next_stops home ps after ends))
            (others_end home ps after all.1 ends),
      )

  params_end : (home : List ℕ) (ps : List Param) (after : List Piece) → AllByRecursion GoodParam ps → EndsWord after → Ended (params_pieces d home ps) after
  params_end home [] after all ends = tt
  params_end home (p ∷ ps) after all ends =
      ended_append (param_pieces d home p) (flat_map (next_param home) ps) after
      (param_ends home p all.0.0 all.0.1 (flat_map (next_param home) ps ++ after) (next_stops home ps after ends))
      (others_end home ps after all.1 ends)

  return_ends : (home : List ℕ) (t : Option Ty) (after : List Piece) → IsReturned e t → EndsWord after → Ended (return_pieces d home t) after
  return_ends home None after fits ends = word_ends words.Void [] after ends tt
  return_ends home (Some t) after fits ends = type_ends d home e t after named before fits ends

  func_ends : (home : List ℕ) (f : FuncDesc) → FuncFits e f → (after : List Piece) → Ended (func_pieces d home f) after
  unfolding func_pieces
  func_ends home f fits after =
      let close = mark signs.CloseParen ∷ mark signs.Semicolon ∷ line_end ∷ [] in
      let named_part = space ∷ ident f.name ∷ mark signs.OpenParen ∷ params_pieces d home f.params in
      let all = each_of_both (λ (p : Param). IsName p.name) (λ (p : Param). IsTypeIn e p.ty) GoodParam (λ p name typed. (name, typed)) f.params fits.names fits.types in (
        refl,
        ended_append (return_pieces d home f.ret ++ named_part) close after
            (ended_append (return_pieces d home f.ret) named_part (close ++ after) (return_ends home f.ret (named_part ++ (close ++ after)) fits.ret refl) (
              refl,
              ident_ends f.name (mark signs.OpenParen ∷ params_pieces d home f.params) (close ++ after) fits.name refl
                  (mark_ends signs.OpenParen (params_pieces d home f.params) (close ++ after) (params_end home f.params (close ++ after) all refl)),
            ))
            (mark_ends signs.CloseParen (mark signs.Semicolon ∷ line_end ∷ []) after (mark_ends signs.Semicolon (line_end ∷ []) after (refl, tt))),
      )

  -- ---- declarations

  opening_ends : (keyword : Keyword) (name : List ℕ) → IsName name → (after : List Piece) → Ended (opening_pieces keyword name) after
  unfolding opening_pieces
  opening_ends keyword name is after =
      let brace = mark signs.OpenBrace ∷ line_end ∷ [] in (
        refl,
        word_ends keyword (space ∷ ident name ∷ line_end ∷ indent ∷ brace) after refl
            (refl, ident_ends name (line_end ∷ indent ∷ brace) after is refl (refl, (refl, mark_ends signs.OpenBrace (line_end ∷ []) after (refl, tt)))),
      )

  closing_ends : (after : List Piece) → Ended closing_pieces after
  closing_ends after = (refl, mark_ends signs.CloseBrace (mark signs.Semicolon ∷ line_end ∷ []) after (mark_ends signs.Semicolon (line_end ∷ []) after (refl, tt)))

  -- a name, lines, and the end
  body_ends : (keyword : Keyword) (name : List ℕ) (lines after : List Piece) → IsName name → ((after : List Piece) → Ended lines after) → Ended (opening_pieces keyword name ++ lines ++ closing_pieces) after
  body_ends keyword name lines after is each =
      ended_append (opening_pieces keyword name ++ lines) closing_pieces after
      (ended_append (opening_pieces keyword name) lines (closing_pieces ++ after) (opening_ends keyword name is (lines ++ (closing_pieces ++ after))) (each (closing_pieces ++ after)))
      (closing_ends after)

  pub struct_ends : (s : StructDesc) → StructFits e s → (after : List Piece) → Ended (struct_lines d s) after
  unfolding struct_lines
  struct_ends s fits after =
      body_ends words.Struct s.name (flat_map (member_pieces d s.«module») s.members) after fits.name.is_name
      (λ after. each_ends (member_pieces d s.«module») s.members after
      (each_of (MemberFits e) (λ m. (after : List Piece) → Ended (member_pieces d s.«module» m) after) (member_ends s.«module») s.members fits.members))

  pub enum_ends : (desc : EnumDesc) → EnumFits e desc → (after : List Piece) → Ended (enum_lines desc) after
  unfolding enum_lines
  enum_ends desc fits after =
      body_ends words.Enum desc.name (flat_map item_pieces desc.items) after fits.name.is_name
      (λ after. each_ends item_pieces desc.items after
      (each_of_both (λ (i : Item). IsName i.name) (λ (i : Item). is_signed 31 i.number ≡ true) (λ i. (after : List Piece) → Ended (item_pieces i) after) item_ends desc.items fits.items fits.numbers))

  pub interface_ends : (i : InterfaceDesc) → InterfaceFits e i → (after : List Piece) → Ended (interface_lines d i) after
  unfolding interface_lines
  interface_ends i fits after =
      body_ends words.Interface i.name (flat_map (func_pieces d i.«module») i.funcs) after fits.name.is_name
      (λ after. each_ends (func_pieces d i.«module») i.funcs after
      (each_of (FuncFits e) (λ f. (after : List Piece) → Ended (func_pieces d i.«module» f) after) (func_ends i.«module») i.funcs fits.funcs))

  pub const_ends : (c : ConstDesc) → ConstFits e c → (after : List Piece) → Ended (const_line d c) after
  unfolding const_line
  const_ends c fits after =
      let close = mark signs.Semicolon ∷ line_end ∷ [] in
      let valued = space ∷ mark signs.Equals ∷ space ∷ literal_pieces c.value in
      let named_part = space ∷ ident c.name ∷ valued in (
        refl,
        word_ends words.Const (space ∷ ((type_pieces d c.«module» c.ty ++ named_part) ++ close)) after refl (
          refl,
          ended_append (type_pieces d c.«module» c.ty ++ named_part) close after
              (ended_append (type_pieces d c.«module» c.ty) named_part (close ++ after) (type_ends d c.«module» e c.ty (named_part ++ (close ++ after)) named before fits.ty refl) (
                refl,
                ident_ends c.name valued (close ++ after) fits.name.is_name refl (
                  refl,
                  mark_ends signs.Equals (space ∷ literal_pieces c.value) (close ++ after)
                      (refl, literal_ends c.value (close ++ after) (literal_has e c.ty c.value fits.value) refl),
                ),
              ))
              (mark_ends signs.Semicolon (line_end ∷ []) after (refl, tt)),
        ),
      )

-- ---- keys

module _ (d : Declared) (named : IsNamed d) where
  next_name : (names : List (List ℕ)) (after : List Piece) → EndsWord after → EndsWord (flat_map (λ name. mark signs.Comma ∷ space ∷ ident name ∷ []) names ++ after)
  next_name [] after ends = ends
  next_name (name ∷ names) after ends = refl

  names_end : (names : List (List ℕ)) (after : List Piece) → AllByRecursion IsName names → EndsWord after → Ended (flat_map (λ name. mark signs.Comma ∷ space ∷ ident name ∷ []) names) after
  names_end [] after all ends = tt
  names_end (name ∷ names) after all ends =
      let rest = flat_map (λ name. mark signs.Comma ∷ space ∷ ident name ∷ []) names in
      mark_ends signs.Comma (space ∷ ident name ∷ rest) after (refl, ident_ends name rest after all.0 (next_name names after ends) (names_end names after all.1 ends))

  -- a struct, and the names of members, are names
  pub key_ends : (k : KeyDesc) (s : StructDesc) → slice_get d.structs k.of ≡ Some s → AllByRecursion IsName k.members → (after : List Piece) → Ended (key_line d k) after
  unfolding key_line
  key_ends k s found members after =
      let close = mark signs.CloseBracket ∷ mark signs.Semicolon ∷ line_end ∷ [] in
      let rest = flat_map (λ name. mark signs.Comma ∷ space ∷ ident name ∷ []) k.members ++ close in
      rw found (
        refl,
        word_ends words.Key (mark signs.OpenBracket ∷ ident s.name ∷ rest) after refl
            (mark_ends signs.OpenBracket (ident s.name ∷ rest) after
            (ident_ends s.name rest after (all_at StructNamed d.structs k.of s named.structs found).name
            (subst (λ (ps : List Piece). EndsWord ps) (sym (append_assoc (flat_map (λ name. mark signs.Comma ∷ space ∷ ident name ∷ []) k.members) close after)) (next_name k.members (close ++ after) refl))
            (ended_append (flat_map (λ name. mark signs.Comma ∷ space ∷ ident name ∷ []) k.members) close after (names_end k.members (close ++ after) members refl)
            (mark_ends signs.CloseBracket (mark signs.Semicolon ∷ line_end ∷ []) after (mark_ends signs.Semicolon (line_end ∷ []) after (refl, tt)))))),
      )
