-- The pieces of a schema spell its canonical text.
use Rattle.std.proofs.Common.{◌≡◌, ℕ, Bool, true, false, Option, Some, None, List, [], ◌∷◌, ◌++◌, refl, sym, ap, ◌∙◌, inl, inr, append_assoc, flat_map, slice_get, codes}
use Rattle.std.proofs.lemmas.Bool.{cases_Bool}
use Rattle.std.proofs.lemmas.List.{append-nil}
use Rattle.std.specs.Fmt.{decimal, signed_decimal}
use Rattle.std.specs.List.{AllByRecursion}
use Rattle.std.specs.Str.{bytes_eq}
use Rattle.tars_model.specs.Declarations.{Declared}
use Rattle.tars_model.specs.Types.{TyLayer, IsType, plain, enum, struct, vector, map, is_plain}
use Rattle.tars_model.specs.declared.enum_desc.EnumDesc.{EnumDesc}
use Rattle.tars_model.specs.declared.enum_desc.Item.{Item}
use Rattle.tars_model.specs.declared.func_desc.Param.{Param}
use Rattle.tars_model.specs.declared.member.Member.{Member}
use Rattle.tars_model.specs.declared.struct_desc.StructDesc.{StructDesc}
use Rattle.tars_model.specs.declared.ty.Ty.{Ty, out-Ty, map-Ty, fold_out-Ty}
use Rattle.tars_model.specs.declared.ty.Ty.TheOpen as ty
use Rattle.tars_model.specs.declared.value.Pair.{Pair}
use Rattle.tars_model.specs.declared.value.Value.{Value, out-Value}
use Rattle.tars_model.specs.declared.value.Value.TheOpen as value
use Rattle.canonical_text.specs.Canonical.{name_text, struct_name, enum_name, type_layer, type_text, quoted, literal_layer, literal_text, is_absent, requirement_word, default_text, member_line, item_line, direction_word, param_text}
use Rattle.idl_lex.specs.declared.sign.Sign.TheVariants as signs
use Rattle.canonical_tree.proofs.Deriving.Types.{pieces_at, vector_pieces, map_pieces}
use Rattle.canonical_tree.specs.Pieces.{Piece, line_end, bytes_of, spell, name_pieces, struct_pieces, enum_pieces, type_pieces, literal_piece, literal_pieces, requirement_piece, default_pieces, member_pieces, item_pieces, direction_pieces, param_pieces, pieces, mark, space, ident}

pub spell_append : (ps qs : List Piece) → spell (ps ++ qs) ≡ spell ps ++ spell qs
spell_append [] qs = refl
spell_append (p ∷ ps) qs = ap (λ (t : List ℕ). bytes_of p ++ t) (spell_append ps qs) ∙ sym (append_assoc (bytes_of p) (spell ps) (spell qs))

-- the pieces of each item of a list
pub each_spells : {T : Type 0} (pieces : T → List Piece) (text : T → List ℕ) (xs : List T) → AllByRecursion (λ x. spell (pieces x) ≡ text x) xs → spell (flat_map pieces xs) ≡ flat_map text xs
each_spells pieces text [] all = refl
each_spells pieces text (x ∷ xs) all =
    spell_append (pieces x) (flat_map pieces xs) ∙ ap (λ (t : List ℕ). t ++ spell (flat_map pieces xs)) all.0 ∙ ap (λ (t : List ℕ). text x ++ t) (each_spells pieces text xs all.1)

-- ---- joined bytes

pub join3 : (a b c : List ℕ) → a ++ b ++ c ≡ a ++ (b ++ c)
join3 a b c = append_assoc a b c

pub join4 : (a b c d : List ℕ) → a ++ b ++ c ++ d ≡ a ++ (b ++ (c ++ d))
join4 a b c d = simp append_assoc

pub join5 : (a b c d e : List ℕ) → a ++ b ++ c ++ d ++ e ≡ a ++ (b ++ (c ++ (d ++ e)))
join5 a b c d e = simp append_assoc

pub join7 : (a b c d e f g : List ℕ) → a ++ b ++ c ++ d ++ e ++ f ++ g ≡ a ++ (b ++ (c ++ (d ++ (e ++ (f ++ g)))))
join7 a b c d e f g = simp append_assoc

join10 : (a b c d e f g h i j : List ℕ) → a ++ b ++ c ++ d ++ e ++ f ++ g ++ h ++ i ++ j ≡ a ++ (b ++ (c ++ (d ++ (e ++ (f ++ (g ++ (h ++ (i ++ j))))))))
join10 a b c d e f g h i j = simp append_assoc

nest3 : (a b c d : List ℕ) → (a ++ (b ++ c)) ++ d ≡ a ++ (b ++ (c ++ d))
nest3 a b c d = simp append_assoc

nest4 : (a b c d e : List ℕ) → (a ++ (b ++ (c ++ d))) ++ e ≡ a ++ (b ++ (c ++ (d ++ e)))
nest4 a b c d e = simp append_assoc

-- three lists of pieces
pub three_spell : (ps qs rs : List Piece) → spell (ps ++ qs ++ rs) ≡ spell ps ++ (spell qs ++ spell rs)
three_spell ps qs rs = spell_append (ps ++ qs) rs ∙ ap (λ (t : List ℕ). t ++ spell rs) (spell_append ps qs) ∙ append_assoc (spell ps) (spell qs) (spell rs)

-- ---- names and types

name_spells : (home own name : List ℕ) → spell (name_pieces home own name) ≡ name_text home own name
unfolding name_pieces name_text
name_spells home own name =
    elim (cases_Bool (bytes_eq own home)) [
      | inl same ↦ rw same (append-nil name)
      | inr other ↦ rw other (ap (λ (t : List ℕ). own ++ (58 ∷ 58 ∷ t)) (append-nil name) ∙ sym (join3 own (codes "::") name))
    ]

module _ (d : Declared) (home : List ℕ) where
  struct_spells : (s : Option StructDesc) → spell (struct_pieces home s) ≡ struct_name home s
  unfolding struct_name
  struct_spells None = refl
  struct_spells (Some s) = name_spells home s.«module» s.name

  enum_spells : (e : Option EnumDesc) → spell (enum_pieces home e) ≡ enum_name home e
  unfolding enum_name
  enum_spells None = refl
  enum_spells (Some e) = name_spells home e.«module» e.name

  text_at : (t : Ty) (l : TyLayer) → out-Ty t ≡ l → type_text d home t ≡ type_layer d home (map-Ty Ty (List ℕ) (type_text d home) l)
  unfolding type_text
  text_at t l is = fold_out-Ty (List ℕ) (type_layer d home) t ∙ ap (λ l. type_layer d home (map-Ty Ty (List ℕ) (type_text d home) l)) is

  plain_spells : (t : Ty) (l : TyLayer) → out-Ty t ≡ l → is_plain l ≡ true → spell (type_pieces d home t) ≡ type_text d home t
  plain_spells t ty.Bool is p = rw (pieces_at [] d home t ty.Bool is, text_at t ty.Bool is) refl
  plain_spells t ty.Byte is p = rw (pieces_at [] d home t ty.Byte is, text_at t ty.Byte is) refl
  plain_spells t ty.Short is p = rw (pieces_at [] d home t ty.Short is, text_at t ty.Short is) refl
  plain_spells t ty.Int is p = rw (pieces_at [] d home t ty.Int is, text_at t ty.Int is) refl
  plain_spells t ty.Long is p = rw (pieces_at [] d home t ty.Long is, text_at t ty.Long is) refl
  plain_spells t ty.Text is p = rw (pieces_at [] d home t ty.Text is, text_at t ty.Text is) refl
  plain_spells t ty.UByte is p = rw (pieces_at [] d home t ty.UByte is, text_at t ty.UByte is) refl
  plain_spells t ty.UShort is p = rw (pieces_at [] d home t ty.UShort is, text_at t ty.UShort is) refl
  plain_spells t ty.UInt is p = rw (pieces_at [] d home t ty.UInt is, text_at t ty.UInt is) refl
  plain_spells t (ty.Enum k) is p = absurd cc
  plain_spells t (ty.Struct k) is p = absurd cc
  plain_spells t (ty.Vector of) is p = absurd cc
  plain_spells t (ty.Map key to) is p = absurd cc

  pub type_spells : {enums structs : ℕ} {t : Ty} → IsType enums structs t → spell (type_pieces d home t) ≡ type_text d home t
  type_spells (plain {t = t} p) = plain_spells t (out-Ty t) refl p
  type_spells (enum {t = t} {number = k} is less) = rw (pieces_at [] d home t (ty.Enum k) is, text_at t (ty.Enum k) is) (enum_spells (slice_get d.enums k))
  type_spells (struct {t = t} {number = k} is less) = rw (pieces_at [] d home t (ty.Struct k) is, text_at t (ty.Struct k) is) (struct_spells (slice_get d.structs k))
  type_spells (vector {t = t} {of = of} is other inside) =
      ap spell (vector_pieces [] d home t of is)
      ∙ ap (λ (l : List ℕ). codes "vector<" ++ l) (spell_append (type_pieces d home of) (mark signs.Greater ∷ []) ∙ ap (λ (l : List ℕ). l ++ codes ">") (type_spells inside))
      ∙ sym (text_at t (ty.Vector of) is ∙ join3 (codes "vector<") (type_text d home of) (codes ">"))
  type_spells (map {t = t} {key = key} {value = to} is good keys values) =
      let second = type_pieces d home to ++ mark signs.Greater ∷ [] in
      let spelled : spell second ≡ type_text d home to ++ codes ">" = spell_append (type_pieces d home to) (mark signs.Greater ∷ []) ∙ ap (λ (l : List ℕ). l ++ codes ">") (type_spells values) in
      ap spell (map_pieces [] d home t key to is)
      ∙ ap (λ (l : List ℕ). codes "map<" ++ l)
      (spell_append (type_pieces d home key) (mark signs.Comma ∷ space ∷ second)
      ∙ ap (λ (l : List ℕ). l ++ (codes ", " ++ spell second)) (type_spells keys)
      ∙ ap (λ (l : List ℕ). type_text d home key ++ (codes ", " ++ l)) spelled)
      ∙ sym (text_at t (ty.Map key to) is ∙ join5 (codes "map<") (type_text d home key) (codes ", ") (type_text d home to) (codes ">"))

-- ---- literals

layer_spells : (l : value.Value-F Value Pair) → spell (literal_piece l) ≡ literal_layer l
layer_spells (value.Bool true) = refl
layer_spells (value.Bool false) = refl
layer_spells (value.Num n) = append-nil (signed_decimal n)
layer_spells (value.Text bytes) = append-nil (quoted bytes)
layer_spells (value.Blob bytes) = refl
layer_spells (value.List vs) = refl
layer_spells (value.Map ps) = refl
layer_spells (value.Struct vs) = refl

pub literal_spells : (v : Value) → spell (literal_pieces v) ≡ literal_text v
unfolding literal_pieces literal_text
literal_spells v = layer_spells (out-Value v)

-- ---- lines

requirement_spells : (b : Bool) → bytes_of (requirement_piece b) ≡ requirement_word b
requirement_spells true = refl
requirement_spells false = refl

direction_spells : (b : Bool) → spell (direction_pieces b) ≡ direction_word b
direction_spells true = refl
direction_spells false = refl

default_spells : (d : Declared) (m : Member) → spell (default_pieces d m) ≡ default_text d m
unfolding default_pieces default_text
default_spells d m =
    elim (cases_Bool (is_absent d (out-Ty m.ty) (out-Value m.default))) [
      | inl none ↦ rw none refl
      | inr written ↦ rw written (ap (λ (l : List ℕ). codes " = " ++ l) (literal_spells m.default))
    ]

pub member_spells : (d : Declared) (home : List ℕ) (m : Member) {enums structs : ℕ} → IsType enums structs m.ty → spell (member_pieces d home m) ≡ member_line d home m
unfolding member_pieces member_line
member_spells d home m is =
    let type = type_text d home m.ty in
    let default = default_text d m in
    let close = mark signs.Semicolon ∷ line_end ∷ [] in
    let tail : spell (type_pieces d home m.ty ++ (space ∷ ident m.name ∷ default_pieces d m) ++ close) ≡ type ++ (codes " " ++ (m.name ++ (default ++ codes ";\n"))) =
    three_spell (type_pieces d home m.ty) (space ∷ ident m.name ∷ default_pieces d m) close
    ∙ ap (λ (l : List ℕ). l ++ ((codes " " ++ (m.name ++ spell (default_pieces d m))) ++ codes ";\n")) (type_spells d home is)
    ∙ ap (λ (l : List ℕ). type ++ ((codes " " ++ (m.name ++ l)) ++ codes ";\n")) (default_spells d m)
    ∙ ap (λ (l : List ℕ). type ++ l) (nest3 (codes " ") m.name default (codes ";\n")) in
    ap (λ (l : List ℕ). codes "        " ++ (decimal m.tag ++ (codes " " ++ (bytes_of (requirement_piece m.require) ++ (codes " " ++ l))))) tail
    ∙ ap (λ (l : List ℕ). codes "        " ++ (decimal m.tag ++ (codes " " ++ (l ++ (codes " " ++ (type ++ (codes " " ++ (m.name ++ (default ++ codes ";\n"))))))))) (requirement_spells m.require)
    ∙ sym (join10 (codes "        ") (decimal m.tag) (codes " ") (requirement_word m.require) (codes " ") type (codes " ") m.name default (codes ";\n"))

pub item_spells : (i : Item) → spell (item_pieces i) ≡ item_line i
unfolding item_pieces item_line
item_spells i = sym (join5 (codes "        ") i.name (codes " = ") (signed_decimal i.number) (codes ",\n"))

pub param_spells : (d : Declared) (home : List ℕ) (p : Param) {enums structs : ℕ} → IsType enums structs p.ty → spell (param_pieces d home p) ≡ param_text d home p
unfolding param_pieces param_text
param_spells d home p is =
    three_spell (direction_pieces p.out) (type_pieces d home p.ty) (space ∷ ident p.name ∷ [])
    ∙ ap (λ (l : List ℕ). l ++ (spell (type_pieces d home p.ty) ++ (codes " " ++ (p.name ++ [])))) (direction_spells p.out)
    ∙ ap (λ (l : List ℕ). direction_word p.out ++ (l ++ (codes " " ++ (p.name ++ [])))) (type_spells d home is)
    ∙ ap (λ (l : List ℕ). direction_word p.out ++ (type_text d home p.ty ++ (codes " " ++ l))) (append-nil p.name)
    ∙ sym (join4 (direction_word p.out) (type_text d home p.ty) (codes " ") p.name)
