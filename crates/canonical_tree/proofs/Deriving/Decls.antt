-- The pieces of declarations derive trees that say them.
use Rattle.std.proofs.Common.{◌≡◌, ◌≤◌, ◌<◌, ℕ, Some, List, [], ◌∷◌, ◌++◌, length, sym, ap, ◌∙◌, subst, append_assoc, flat_map, slice_get, All}
use Rattle.std.proofs.lemmas.List.Elements.{recursion_from_All}
use Rattle.std.specs.List.{AllByRecursion}
use Rattle.tars_model.specs.Declarations.{Declared, members_at, struct_members}
use Rattle.tars_model.specs.Names.{IsName}
use Rattle.tars_model.specs.Schemas.{MemberFits, StructFits, EnumFits, ConstFits, FuncFits, InterfaceFits, NamesMember}
use Rattle.tars_model.specs.declared.const_desc.ConstDesc.{ConstDesc}
use Rattle.tars_model.specs.declared.decl.Decl.{Decl}
use Rattle.tars_model.specs.declared.decl.Decl.TheVariants as decl
use Rattle.tars_model.specs.declared.enum_desc.EnumDesc.{EnumDesc}
use Rattle.tars_model.specs.declared.interface_desc.InterfaceDesc.{InterfaceDesc}
use Rattle.tars_model.specs.declared.key_desc.KeyDesc.{KeyDesc}
use Rattle.tars_model.specs.declared.member.Member.{Member}
use Rattle.tars_model.specs.declared.struct_desc.StructDesc.{StructDesc}
use Rattle.idl_parse.specs.Grammar as grammar
use Rattle.idl_parse.specs.Grammar.{Block, Ident, Mark, Word}
use Rattle.idl_parse.specs.Rules.{Rel, ◌⟫◌}
use Rattle.idl_lex.specs.declared.keyword.Keyword.{Keyword}
use Rattle.idl_lex.specs.declared.keyword.Keyword.TheVariants as words
use Rattle.idl_lex.specs.declared.sign.Sign.TheVariants as signs
use Rattle.idl_lex.specs.declared.span.Span.{Span}
use Rattle.canonical_tree.specs.Pieces.{Piece, word, mark, ident, space, line_end, indent, type_pieces, literal_pieces, member_pieces, item_pieces, func_pieces, opening_pieces, closing_pieces, struct_lines, enum_lines, const_line, key_line, interface_lines, struct_ident, pieces_of, decl_pieces}
use Rattle.canonical_tree.specs.Says.{Pairwise, NameSays, MemberSays, FuncSays, DeclSays}
use Rattle.canonical_tree.proofs.DeclFits.{IsPrefixOf, StructNamed, DeclFits, get_longer, all_at}
use Rattle.canonical_tree.proofs.Deriving.Funcs.{func_derives}
use Rattle.canonical_tree.proofs.Deriving.Items.{items_derive}
use Rattle.canonical_tree.proofs.Deriving.Kit.{WordAt, Derives, Ended, done, past, one, spanned, part, last, ended, in_left, in_right, many}
use Rattle.canonical_tree.proofs.Deriving.Literals.{literal_derives, literal_has}
use Rattle.canonical_tree.proofs.Deriving.Members.{typed_as, member_derives}
use Rattle.canonical_tree.proofs.Deriving.Types.{IsNamed, there}
use Rattle.canonical_tree.proofs.Deriving.Words.{name_says}
use Rattle.canonical_tree.proofs.Lists.{each_of}

-- `WORD NAME`, `{`, and what follows
abbrev headed_by : Keyword → List ℕ → List Piece → List Piece
headed_by keyword name ps = indent ∷ word keyword ∷ space ∷ ident name ∷ line_end ∷ indent ∷ mark signs.OpenBrace ∷ line_end ∷ ps

abbrev close : List Piece
close = indent ∷ mark signs.CloseBrace ∷ []

-- `WORD NAME`, and a body in braces
braced : Keyword → List ℕ → List Piece → List Piece
braced keyword name body = headed_by keyword name (body ++ close)

semicolon : List Piece
semicolon = mark signs.Semicolon ∷ line_end ∷ []

semicolon_last : (keyword : Keyword) (name : List ℕ) (body : List Piece) → opening_pieces keyword name ++ body ++ closing_pieces ≡ braced keyword name body ++ semicolon
unfolding braced semicolon opening_pieces
semicolon_last keyword name body = sym (simp append_assoc)

headed : {text : List ℕ} {B : Type 0} {Q : Span → Rel B} {F : B → Type 0} {name : List ℕ} {ps : List Piece} (keyword : Keyword) → ((at : Span) → WordAt text name at → Derives text (Q at) F ps)
    → Derives text (Word keyword ⟫ λ _. Ident ⟫ λ name. Mark signs.OpenBrace ⟫ λ _. Q name) F (headed_by keyword name ps)
headed keyword later = past (one (λ _ _ _. past (spanned (λ at is. past (past (one (λ _ _ _. past (later at is))))))))

const_pieces : Declared → ConstDesc → List Piece
const_pieces d c = indent ∷ word words.Const ∷ space ∷ (type_pieces d c.«module» c.ty ++ (space ∷ ident c.name ∷ space ∷ mark signs.Equals ∷ space ∷ literal_pieces c.value))

-- a member's name in a key, and the key of a struct
key_name : List ℕ → List Piece
key_name name = mark signs.Comma ∷ space ∷ ident name ∷ []

key_pieces : List ℕ → List (List ℕ) → List Piece
key_pieces struct names = indent ∷ word words.Key ∷ mark signs.OpenBracket ∷ ident struct ∷ (flat_map key_name names ++ (mark signs.CloseBracket ∷ []))

-- items in braces, each with a semicolon
block : {A T : Type 0} {text : List ℕ} {P : Rel A} (Fits : T → Type 0) (Goes : T → A → Type 0) (pieces : T → List Piece) → ((x : T) → Fits x → Derives text (Ended P) (Goes x) (pieces x))
    → (items : List T) → All Fits items → Derives text (Block P) (Pairwise Goes items) (flat_map pieces items ++ close)
block Fits Goes pieces derives items all =
    part (many Fits Goes pieces derives items (recursion_from_All Fits items all)) (λ trees said. past (one (λ _ _ _. done said)))

-- over what is declared; e was declared before
module _ (text : List ℕ) (d e : Declared) (room : ℕ) (enough : 16 ≤ room) (named : IsNamed d) (before : IsPrefixOf e d) where
  struct : (k : ℕ) (s : StructDesc) → slice_get d.structs k ≡ Some s → StructFits e s
      → Derives text (grammar.Struct room) (DeclSays text d (decl.Struct k)) (braced words.Struct s.name (flat_map (member_pieces d s.«module») s.members))
  unfolding braced
  struct k s found fits =
      headed words.Struct (λ name is_name.
      last (block (MemberFits e) (MemberSays text d s.«module») (member_pieces d s.«module») (member_derives text d e s.«module» room enough named before) s.members fits.members) (λ trees said.
      done (rw found (record { name = name_says fits.name.is_name is_name; members = said }))))

  enum : (k : ℕ) (desc : EnumDesc) → slice_get d.enums k ≡ Some desc → EnumFits e desc
      → Derives text grammar.Enum (DeclSays text d (decl.Enum k)) (braced words.Enum desc.name (flat_map item_pieces desc.items))
  unfolding braced
  enum k desc found fits =
      headed words.Enum (λ name is_name. part (items_derive text desc.items fits.items fits.numbers) (λ trees said. past (one (λ _ _ _.
      done (rw found (record { name = name_says fits.name.is_name is_name; items = said }))))))

  interface : (k : ℕ) (i : InterfaceDesc) → slice_get d.interfaces k ≡ Some i → InterfaceFits e i
      → Derives text (grammar.Interface room) (DeclSays text d (decl.Interface k)) (braced words.Interface i.name (flat_map (func_pieces d i.«module») i.funcs))
  unfolding braced
  interface k i found fits =
      headed words.Interface (λ name is_name.
      last (block (FuncFits e) (FuncSays text d i.«module») (func_pieces d i.«module») (func_derives text d e i.«module» room enough named before) i.funcs fits.funcs) (λ trees said.
      done (rw found (record { name = name_says fits.name.is_name is_name; funcs = said }))))

  const : (k : ℕ) (c : ConstDesc) → slice_get d.consts k ≡ Some c → ConstFits e c → Derives text (grammar.Const room) (DeclSays text d (decl.Const k)) (const_pieces d c)
  unfolding const_pieces
  const k c found fits =
      past (one (λ _ _ _. past (typed_as text d e c.«module» room enough named before c.ty fits.ty fits.name.is_name (λ tree ty_said name_said.
      past (one (λ _ _ _. past (last (literal_derives text c.value (literal_has e c.ty c.value fits.value)) (λ literal said.
      done (rw found (record { ty = ty_said; name = name_said; value = said }))))))))))

  -- keys

  next_name : (name : List ℕ) → IsName name → Derives text (Mark signs.Comma ⟫ λ _. Ident) (NameSays text name) (key_name name)
  unfolding key_name
  next_name name is_name = one (λ _ _ _. past (one (λ _ _ is. done (name_says is_name is))))

  key : (n : ℕ) (k : KeyDesc) (s : StructDesc) → slice_get d.keys n ≡ Some k → slice_get d.structs k.of ≡ Some s → IsName s.name → AllByRecursion IsName k.members
      → Derives text grammar.Key (DeclSays text d (decl.Key n)) (key_pieces s.name k.members)
  unfolding key_pieces
  key n k s found of is_name names =
      past (one (λ _ _ _. one (λ _ _ _. spanned (λ at is. part (many IsName (NameSays text) key_name next_name k.members names) (λ spans said. one (λ _ _ _.
      done (rw found (record { struct = s; declared = of; name = name_says is_name is; members = said }))))))))

-- a name of a member is a name
at_middle : {T : Type 0} (P : T → Type 0) (earlier later : List T) (x : T) → AllByRecursion P (earlier ++ x ∷ later) → P x
at_middle P [] later x all = all.0
at_middle P (y ∷ earlier) later x all = at_middle P earlier later x all.1

pub member_named : (members : List Member) (name : List ℕ) → AllByRecursion (λ (m : Member). IsName m.name) members → NamesMember members name → IsName name
member_named members name all (earlier, later, m, whole, is) =
    subst IsName is (at_middle (λ (m : Member). IsName m.name) earlier later m (subst (AllByRecursion (λ (m : Member). IsName m.name)) whole all))

pub key_struct : (d e : Declared) (k : ℕ) → IsPrefixOf e d → k < length e.structs → (s : StructDesc) × (slice_get d.structs k ≡ Some s) × (members_at e k ≡ s.members)
key_struct d e k before less =
    let found = there e.structs k less in
    (found.0, get_longer e.structs d.structs k found.0 before.structs found.1, ap struct_members found.1)

-- ---- any declaration

module _ (text : List ℕ) (d : Declared) (room : ℕ) (enough : 16 ≤ room) (named : IsNamed d) where
  abbrev DeclDerives : Decl → Type 0
  DeclDerives next = Derives text (Ended (grammar.Decl room)) (DeclSays text d next) (decl_pieces d next)

  with_pieces : (next : Decl) (core : List Piece) → decl_pieces d next ≡ core ++ semicolon → Derives text (grammar.Decl room) (DeclSays text d next) core → DeclDerives next
  unfolding semicolon
  with_pieces next core is r = subst (Derives text (Ended (grammar.Decl room)) (DeclSays text d next)) (sym is) (ended r)

  struct_pieces_are : (k : ℕ) (s : StructDesc) → slice_get d.structs k ≡ Some s
      → decl_pieces d (decl.Struct k) ≡ braced words.Struct s.name (flat_map (member_pieces d s.«module») s.members) ++ semicolon
  unfolding decl_pieces struct_lines
  struct_pieces_are k s found = ap (pieces_of (struct_lines d)) found ∙ semicolon_last words.Struct s.name (flat_map (member_pieces d s.«module») s.members)

  enum_pieces_are : (k : ℕ) (desc : EnumDesc) → slice_get d.enums k ≡ Some desc → decl_pieces d (decl.Enum k) ≡ braced words.Enum desc.name (flat_map item_pieces desc.items) ++ semicolon
  unfolding decl_pieces enum_lines
  enum_pieces_are k desc found = ap (pieces_of enum_lines) found ∙ semicolon_last words.Enum desc.name (flat_map item_pieces desc.items)

  interface_pieces_are : (k : ℕ) (i : InterfaceDesc) → slice_get d.interfaces k ≡ Some i
      → decl_pieces d (decl.Interface k) ≡ braced words.Interface i.name (flat_map (func_pieces d i.«module») i.funcs) ++ semicolon
  unfolding decl_pieces interface_lines
  interface_pieces_are k i found = ap (pieces_of (interface_lines d)) found ∙ semicolon_last words.Interface i.name (flat_map (func_pieces d i.«module») i.funcs)

  const_pieces_are : (k : ℕ) (c : ConstDesc) → slice_get d.consts k ≡ Some c → decl_pieces d (decl.Const k) ≡ const_pieces d c ++ semicolon
  unfolding decl_pieces const_line const_pieces semicolon
  const_pieces_are k c found = ap (pieces_of (const_line d)) found

  key_pieces_are : (n : ℕ) (k : KeyDesc) (s : StructDesc) → slice_get d.keys n ≡ Some k → slice_get d.structs k.of ≡ Some s → decl_pieces d (decl.Key n) ≡ key_pieces s.name k.members ++ semicolon
  unfolding decl_pieces key_line key_pieces key_name semicolon
  key_pieces_are n k s found of =
      ap (pieces_of (key_line d)) found
      ∙ ap (λ o. indent ∷ word words.Key ∷ mark signs.OpenBracket ∷ struct_ident o ++ flat_map key_name k.members ++ mark signs.CloseBracket ∷ mark signs.Semicolon ∷ line_end ∷ []) of
      ∙ sym (simp append_assoc)

  pub decl_derives : (next : Decl) → DeclFits d next → DeclDerives next
  decl_derives (decl.Struct k) (s, found, (e, before, fits)) = with_pieces (decl.Struct k) _ (struct_pieces_are k s found) (in_left (struct text d e room enough named before k s found fits))
  decl_derives (decl.Enum k) (desc, found, (e, before, fits)) = with_pieces (decl.Enum k) _ (enum_pieces_are k desc found) (in_right (in_left (enum text d e room enough named before k desc found fits)))
  decl_derives (decl.Const k) (c, found, (e, before, fits)) = with_pieces (decl.Const k) _ (const_pieces_are k c found) (in_right (in_right (in_left (const text d e room enough named before k c found fits))))
  decl_derives (decl.Key n) (k, found, (e, before, fits)) =
      let of = key_struct d e k.of before fits.struct in
      let s = all_at StructNamed d.structs k.of of.0 named.structs of.1 in
      let names = each_of (NamesMember (members_at e k.of)) IsName (λ name names. member_named of.0.members name s.members (subst (λ ms. NamesMember ms name) of.2 names)) k.members fits.members in
      with_pieces (decl.Key n) _ (key_pieces_are n k of.0 found of.1) (in_right (in_right (in_right (in_left (key text d e room enough named before n k of.0 found of.1 s.name names)))))
  decl_derives (decl.Interface k) (i, found, (e, before, fits)) =
      with_pieces (decl.Interface k) _ (interface_pieces_are k i found) (in_right (in_right (in_right (in_right (interface text d e room enough named before k i found fits)))))
