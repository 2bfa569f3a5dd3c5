-- The pieces of declarations and blocks spell their texts.
use Rattle.std.proofs.Common.{◌≡◌, ℕ, Option, Some, None, List, [], ◌∷◌, ◌++◌, refl, sym, ap, ◌∙◌, inl, inr, append_assoc, flat_map, slice_get, codes}
use Rattle.std.proofs.lemmas.Bool.{cases_Bool}
use Rattle.std.proofs.lemmas.List.{append-nil}
use Rattle.std.proofs.lemmas.List.Elements.{recursion_from_All}
use Rattle.std.specs.List.{AllByRecursion}
use Rattle.std.specs.Str.{bytes_eq}
use Rattle.tars_model.specs.Declarations.{Declared}
use Rattle.tars_model.specs.Schemas.{IsTypeIn, MemberFits, StructFits, ConstFits, FuncFits, IsReturned, InterfaceFits, IsSchema}
use Rattle.tars_model.specs.declared.const_desc.ConstDesc.{ConstDesc}
use Rattle.tars_model.specs.declared.decl.Decl.{Decl}
use Rattle.tars_model.specs.declared.decl.Decl.TheVariants as decl
use Rattle.tars_model.specs.declared.enum_desc.EnumDesc.{EnumDesc}
use Rattle.tars_model.specs.declared.func_desc.FuncDesc.{FuncDesc}
use Rattle.tars_model.specs.declared.func_desc.Param.{Param}
use Rattle.tars_model.specs.declared.interface_desc.InterfaceDesc.{InterfaceDesc}
use Rattle.tars_model.specs.declared.key_desc.KeyDesc.{KeyDesc}
use Rattle.tars_model.specs.declared.struct_desc.StructDesc.{StructDesc}
use Rattle.tars_model.specs.declared.ty.Ty.{Ty}
use Rattle.canonical_text.specs.Canonical.{type_text, literal_text, member_line, item_line, param_text, params_text, return_text, func_line, opening, closing, struct_text, enum_text, const_text, bare_name, key_text, interface_text, decl_text, decl_home, block_start, block_end, turn, blocks, canonical}
use Rattle.idl_lex.specs.Spellings.{keyword_text}
use Rattle.idl_lex.specs.declared.keyword.Keyword.{Keyword}
use Rattle.idl_lex.specs.declared.keyword.Keyword.TheVariants as words
use Rattle.idl_lex.specs.declared.sign.Sign.TheVariants as signs
use Rattle.canonical_tree.specs.Pieces.{Piece, spell, mark, space, line_end, ident, type_pieces, literal_pieces, member_pieces, item_pieces, param_pieces, params_pieces, return_pieces, func_pieces, opening_pieces, closing_pieces, struct_lines, enum_lines, const_line, struct_ident, key_line, interface_lines, decl_pieces, block_start_pieces, block_close, block_end_pieces, turn_pieces, block_pieces, pieces}
use Rattle.canonical_tree.proofs.DeclFits.{DeclFits, decl_fits}
use Rattle.canonical_tree.proofs.Lists.{each_so, each_of}
use Rattle.canonical_tree.proofs.Lexing.Spelling.{spell_append, each_spells, three_spell, join3, join4, join5, join7, type_spells, literal_spells, member_spells, item_spells, param_spells}

module _ (d e : Declared) where
  -- ---- functions

  abbrev next_param : List ℕ → Param → List Piece
  next_param home p = mark signs.Comma ∷ space ∷ param_pieces d home p

  params_spell : (home : List ℕ) (ps : List Param) → AllByRecursion (λ (p : Param). IsTypeIn e p.ty) ps → spell (params_pieces d home ps) ≡ params_text d home ps
  params_spell home [] all = refl
  params_spell home (p ∷ ps) all =
      spell_append (param_pieces d home p) (flat_map (next_param home) ps)
      ∙ ap (λ (l : List ℕ). l ++ spell (flat_map (next_param home) ps)) (param_spells d home p all.0.is_type)
      ∙ ap (λ (l : List ℕ). param_text d home p ++ l)
      (each_spells (next_param home) (λ p. codes ", " ++ param_text d home p) ps
      (each_so (λ (p : Param). IsTypeIn e p.ty) (λ p. spell (next_param home p) ≡ codes ", " ++ param_text d home p)
      (λ p is. ap (λ (l : List ℕ). codes ", " ++ l) (param_spells d home p is.is_type)) ps all.1))

  return_spells : (home : List ℕ) (t : Option Ty) → IsReturned e t → spell (return_pieces d home t) ≡ return_text d home t
  return_spells home None is = refl
  return_spells home (Some t) is = type_spells d home is.is_type

  nest4 : (a b c d e : List ℕ) → (a ++ (b ++ (c ++ d))) ++ e ≡ a ++ (b ++ (c ++ (d ++ e)))
  nest4 a b c d e = simp append_assoc

  func_spells : (home : List ℕ) (f : FuncDesc) → FuncFits e f → spell (func_pieces d home f) ≡ func_line d home f
  unfolding func_pieces func_line
  func_spells home f fits =
      let close = mark signs.CloseParen ∷ mark signs.Semicolon ∷ line_end ∷ [] in
      let params = params_text d home f.params in
      let tail : spell (return_pieces d home f.ret ++ (space ∷ ident f.name ∷ mark signs.OpenParen ∷ params_pieces d home f.params) ++ close)
      ≡ return_text d home f.ret ++ (codes " " ++ (f.name ++ (codes "(" ++ (params ++ codes ");\n")))) =
      three_spell (return_pieces d home f.ret) (space ∷ ident f.name ∷ mark signs.OpenParen ∷ params_pieces d home f.params) close
      ∙ ap (λ (l : List ℕ). l ++ ((codes " " ++ (f.name ++ (codes "(" ++ spell (params_pieces d home f.params)))) ++ codes ");\n")) (return_spells home f.ret fits.ret)
      ∙ ap (λ (l : List ℕ). return_text d home f.ret ++ ((codes " " ++ (f.name ++ (codes "(" ++ l))) ++ codes ");\n")) (params_spell home f.params (recursion_from_All (λ (p : Param). IsTypeIn e p.ty) f.params fits.types))
      ∙ ap (λ (l : List ℕ). return_text d home f.ret ++ l) (nest4 (codes " ") f.name (codes "(") params (codes ");\n")) in
      ap (λ (l : List ℕ). codes "        " ++ l) tail ∙ sym (join7 (codes "        ") (return_text d home f.ret) (codes " ") f.name (codes "(") params (codes ");\n"))

  -- ---- declarations

  opening_spells : (keyword : Keyword) (name : List ℕ) → spell (opening_pieces keyword name) ≡ opening (keyword_text keyword) name
  unfolding opening_pieces opening
  opening_spells keyword name = sym (join5 (codes "    ") (keyword_text keyword) (codes " ") name (codes "\n    {\n"))

  body_spells : (keyword : Keyword) (name lines : List ℕ) (body : List Piece) → spell body ≡ lines → spell (opening_pieces keyword name ++ body ++ closing_pieces) ≡ opening (keyword_text keyword) name ++ lines ++ closing
  body_spells keyword name lines body is =
      three_spell (opening_pieces keyword name) body closing_pieces
      ∙ ap (λ (l : List ℕ). l ++ (spell body ++ closing)) (opening_spells keyword name)
      ∙ ap (λ (l : List ℕ). opening (keyword_text keyword) name ++ (l ++ closing)) is
      ∙ sym (join3 (opening (keyword_text keyword) name) lines closing)

  pub struct_spells : (s : StructDesc) → StructFits e s → spell (struct_lines d s) ≡ struct_text d s
  unfolding struct_lines struct_text
  struct_spells s fits =
      body_spells words.Struct s.name (flat_map (member_line d s.«module») s.members) (flat_map (member_pieces d s.«module») s.members)
      (each_spells (member_pieces d s.«module») (member_line d s.«module») s.members
      (each_of (MemberFits e) (λ m. spell (member_pieces d s.«module» m) ≡ member_line d s.«module» m) (λ m is. member_spells d s.«module» m is.ty.is_type) s.members fits.members))

  pub interface_spells : (i : InterfaceDesc) → InterfaceFits e i → spell (interface_lines d i) ≡ interface_text d i
  unfolding interface_lines interface_text
  interface_spells i fits =
      body_spells words.Interface i.name (flat_map (func_line d i.«module») i.funcs) (flat_map (func_pieces d i.«module») i.funcs)
      (each_spells (func_pieces d i.«module») (func_line d i.«module») i.funcs
      (each_of (FuncFits e) (λ f. spell (func_pieces d i.«module» f) ≡ func_line d i.«module» f) (func_spells i.«module») i.funcs fits.funcs))

  every : {T : Type 0} (P : T → Type 0) → ((x : T) → P x) → (xs : List T) → AllByRecursion P xs
  every P f [] = tt
  every P f (x ∷ xs) = (f x, every P f xs)

  pub enum_spells : (desc : EnumDesc) → spell (enum_lines desc) ≡ enum_text desc
  unfolding enum_lines enum_text
  enum_spells desc =
      body_spells words.Enum desc.name (flat_map item_line desc.items) (flat_map item_pieces desc.items)
      (each_spells item_pieces item_line desc.items (every (λ i. spell (item_pieces i) ≡ item_line i) item_spells desc.items))

  pub const_spells : (c : ConstDesc) → ConstFits e c → spell (const_line d c) ≡ const_text d c
  unfolding const_line const_text
  const_spells c fits =
      let close = mark signs.Semicolon ∷ line_end ∷ [] in
      let type = type_text d c.«module» c.ty in
      let tail : spell (type_pieces d c.«module» c.ty ++ (space ∷ ident c.name ∷ space ∷ mark signs.Equals ∷ space ∷ literal_pieces c.value) ++ close)
      ≡ type ++ (codes " " ++ (c.name ++ (codes " = " ++ (literal_text c.value ++ codes ";\n")))) =
      three_spell (type_pieces d c.«module» c.ty) (space ∷ ident c.name ∷ space ∷ mark signs.Equals ∷ space ∷ literal_pieces c.value) close
      ∙ ap (λ (l : List ℕ). l ++ ((codes " " ++ (c.name ++ (codes " = " ++ spell (literal_pieces c.value)))) ++ codes ";\n")) (type_spells d c.«module» fits.ty.is_type)
      ∙ ap (λ (l : List ℕ). type ++ ((codes " " ++ (c.name ++ (codes " = " ++ l))) ++ codes ";\n")) (literal_spells c.value)
      ∙ ap (λ (l : List ℕ). type ++ l) (nest4 (codes " ") c.name (codes " = ") (literal_text c.value) (codes ";\n")) in
      ap (λ (l : List ℕ). codes "    const " ++ l) tail ∙ sym (join7 (codes "    const ") type (codes " ") c.name (codes " = ") (literal_text c.value) (codes ";\n"))

  bare_spells : (s : Option StructDesc) → spell (struct_ident s) ≡ bare_name s
  bare_spells None = refl
  bare_spells (Some s) = append-nil s.name

  pub key_spells : (k : KeyDesc) → spell (key_line d k) ≡ key_text d k
  unfolding key_line key_text
  key_spells k =
      let close = mark signs.CloseBracket ∷ mark signs.Semicolon ∷ line_end ∷ [] in
      let bare = bare_name (slice_get d.structs k.of) in
      let names = flat_map (λ name. codes ", " ++ name) k.members in
      let tail : spell (struct_ident (slice_get d.structs k.of) ++ flat_map (λ name. mark signs.Comma ∷ space ∷ ident name ∷ []) k.members ++ close) ≡ bare ++ (names ++ codes "];\n") =
      three_spell (struct_ident (slice_get d.structs k.of)) (flat_map (λ name. mark signs.Comma ∷ space ∷ ident name ∷ []) k.members) close
      ∙ ap (λ (l : List ℕ). l ++ (spell (flat_map (λ name. mark signs.Comma ∷ space ∷ ident name ∷ []) k.members) ++ codes "];\n")) (bare_spells (slice_get d.structs k.of))
      ∙ ap (λ (l : List ℕ). bare ++ (l ++ codes "];\n"))
      (each_spells (λ name. mark signs.Comma ∷ space ∷ ident name ∷ []) (λ name. codes ", " ++ name) k.members
      (every (λ name. spell (mark signs.Comma ∷ space ∷ ident name ∷ []) ≡ codes ", " ++ name) (λ name. ap (λ (l : List ℕ). codes ", " ++ l) (append-nil name)) k.members)) in
      ap (λ (l : List ℕ). codes "    key[" ++ l) tail ∙ sym (join4 (codes "    key[") bare names (codes "];\n"))

-- ---- blocks

module _ (d : Declared) where
  decl_spells : (x : Decl) → DeclFits d x → spell (decl_pieces d x) ≡ decl_text d x
  unfolding decl_pieces decl_text
  decl_spells (decl.Struct k) (s, found, (e, before, fits)) = rw found (struct_spells d e s fits)
  decl_spells (decl.Enum k) (s, found, (e, before, fits)) = rw found (enum_spells d e s)
  decl_spells (decl.Const k) (s, found, (e, before, fits)) = rw found (const_spells d e s fits)
  decl_spells (decl.Key k) (s, found, (e, before, fits)) = rw found (key_spells d e s)
  decl_spells (decl.Interface k) (s, found, (e, before, fits)) = rw found (interface_spells d e s fits)

  start_spells : (home : List ℕ) → spell (block_start_pieces home) ≡ block_start home
  unfolding block_start_pieces block_start
  start_spells home = sym (join3 (codes "module ") home (codes "\n{\n"))

  end_spells : (block : Option (List ℕ)) → spell (block_end_pieces block) ≡ block_end block
  end_spells None = refl
  end_spells (Some home) = refl

  turn_spells : (block : Option (List ℕ)) (home : List ℕ) → spell (turn_pieces block home) ≡ turn block home
  unfolding turn_pieces turn
  turn_spells None home = start_spells home
  turn_spells (Some block) home =
      elim (cases_Bool (bytes_eq block home)) [
        | inl same ↦ rw same refl
        | inr other ↦ rw other (spell_append block_close (block_start_pieces home) ∙ ap (λ (l : List ℕ). codes "};\n" ++ l) (start_spells home))
      ]

  blocks_spell : (block : Option (List ℕ)) (decls : List Decl) → AllByRecursion (DeclFits d) decls → spell (block_pieces d block decls) ≡ blocks d block decls
  unfolding block_pieces blocks
  blocks_spell block [] all = end_spells block
  blocks_spell block (next ∷ decls) all =
      let rest = block_pieces d (Some (decl_home d next)) decls in
      three_spell (turn_pieces block (decl_home d next)) (decl_pieces d next) rest
      ∙ ap (λ (l : List ℕ). l ++ (spell (decl_pieces d next) ++ spell rest)) (turn_spells block (decl_home d next))
      ∙ ap (λ (l : List ℕ). turn block (decl_home d next) ++ (l ++ spell rest)) (decl_spells next all.0)
      ∙ ap (λ (l : List ℕ). turn block (decl_home d next) ++ (decl_text d next ++ l)) (blocks_spell (Some (decl_home d next)) decls all.1)
      ∙ sym (join3 (turn block (decl_home d next)) (decl_text d next) (blocks d (Some (decl_home d next)) decls))

-- the pieces are those of the canonical text
pub pieces_spell : (d : Declared) → IsSchema d → spell (pieces d) ≡ canonical d
unfolding pieces canonical
pieces_spell d schema = blocks_spell d None d.order (decl_fits d schema)
