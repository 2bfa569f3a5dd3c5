-- Numbers of declarations in which no rule finds anything can be read.
use Rattle.std.proofs.Common.{◌≡◌, ◌^◌, ◌≤◌, ℕ, ℤ, pos, negsuc, Bool, true, false, ◌&&◌, Option, Some, None, List, [], ◌∷◌, arith}
use Rattle.std.proofs.lemmas.Bool.Decides.{nat_tests}
use Rattle.std.proofs.lemmas.List.Elements.{All-from_recursion, recursion_from_All}
use Rattle.std.specs.List.{All, AllByRecursion}
use Rattle.tars_model.specs.Values.{is_signed, is_unsigned}
use Rattle.tars_model.specs.declared.enum_desc.Item.{Item as Enumerator}
use Rattle.idl_parse.specs.TreeSpans.{IfThere, MemberIn}
use Rattle.idl_parse.specs.declared.tree.decl.ConstTree.{ConstTree}
use Rattle.idl_parse.specs.declared.tree.decl.DeclTree.TheVariants as decls
use Rattle.idl_parse.specs.declared.tree.decl.EnumTree.{EnumTree}
use Rattle.idl_parse.specs.declared.tree.decl.StructTree.{StructTree}
use Rattle.idl_parse.specs.declared.tree.literal.Literal.{Literal}
use Rattle.idl_parse.specs.declared.tree.literal.Literal.TheVariants as literals
use Rattle.idl_parse.specs.declared.tree.literal.LiteralWord.TheVariants as words
use Rattle.idl_parse.specs.declared.tree.member.MemberTree.{MemberTree}
use Rattle.idl_parse.specs.declared.tree.type_tree.BasicType.{BasicType}
use Rattle.idl_parse.specs.declared.tree.type_tree.BasicType.TheVariants as basics
use Rattle.idl_parse.specs.declared.tree.type_tree.TypeTree.{out-TypeTree}
use Rattle.idl_parse.specs.declared.tree.type_tree.TypeTree.TheOpen as layer
use Rattle.idl_scene.specs.Items.{declared, item}
use Rattle.idl_scene.specs.Known.{Scene, is_enum}
use Rattle.idl_scene.specs.Literals.{is_number_of_word, fits_number, fits_literal, literal_start}
use Rattle.idl_scene.specs.Types.{TypeLayer, meaning_of}
use Rattle.idl_scene.specs.declared.check_fault.CheckWhy.TheVariants.{TagRange, BadDefault}
use Rattle.idl_rules.specs.Conditions.{scene_at}
use Rattle.idl_rules.specs.Rules.{bad_written, bad_const, tag_range, tag_of}
use Rattle.tars_model.specs.Declarations.{Declared}
use Rattle.idl_schema.specs.Faultless.{CanAdd}
use Rattle.idl_schema.specs.Reading.{LiteralLong, MemberReads}
use Rattle.idl_schema.specs.SchemaOf.{items_after}
use Rattle.idl_schema.proofs.EnumFit.{enum_ints}
use Rattle.idl_schema.proofs.Nothing.{holds, alone_nothing}

signed_long : (bits : ℕ) (n : ℤ) → 2 ^ bits ≤ 2 ^ 63 → is_signed bits n ≡ true → is_signed 63 n ≡ true
signed_long bits (pos n) less e = grind (arith, nat_tests)
signed_long bits (negsuc n) less e = grind (arith, nat_tests)

unsigned_long : (bits : ℕ) (n : ℤ) → 2 ^ bits ≤ 2 ^ 63 → is_unsigned bits n ≡ true → is_signed 63 n ≡ true
unsigned_long bits (pos n) less e = grind (arith, nat_tests)
unsigned_long bits (negsuc n) less e = absurd cc

word_long : (w : BasicType) (n : ℤ) → is_number_of_word w n ≡ true → is_signed 63 n ≡ true
word_long basics.Byte n e = signed_long 7 n (omega arith) e
word_long basics.Short n e = signed_long 15 n (omega arith) e
word_long basics.Int n e = signed_long 31 n (omega arith) e
word_long basics.Long n e = e
word_long basics.UnsignedByte n e = unsigned_long 8 n (omega arith) e
word_long basics.UnsignedShort n e = unsigned_long 16 n (omega arith) e
word_long basics.UnsignedInt n e = unsigned_long 32 n (omega arith) e
word_long basics.Bool n e = cc
word_long basics.Float n e = cc
word_long basics.Double n e = cc
word_long basics.Text n e = cc

right_true : (a b : Bool) → (a && b) ≡ true → b ≡ true
right_true true b e = e
right_true false b e = cc

number_long : (s : Scene) (l : TypeLayer) (n : ℤ) → fits_number s l n ≡ true → is_signed 63 n ≡ true
number_long s (layer.Basic at basic) n e = word_long basic n e
number_long s (layer.Named name) n e = signed_long 31 n (omega arith) (right_true (is_enum (meaning_of s name)) (is_signed 31 n) e)
number_long s (layer.Vector at element) n e = cc
number_long s (layer.Map at k v) n e = cc

literal_long : (s : Scene) (most : Option ℕ) (l : TypeLayer) (literal : Literal) → fits_literal s most l literal ≡ true → LiteralLong s.text literal
literal_long s most l (literals.Word words.Number span) e = number_long s l _ e
literal_long s most l (literals.Word words.Fraction span) e = tt
literal_long s most l (literals.Word words.Text span) e = tt
literal_long s most l (literals.Word words.True span) e = tt
literal_long s most l (literals.Word words.False span) e = tt
literal_long s most l (literals.Named name) e = tt

default_long : (s : Scene) (l : TypeLayer) (o : Option Literal) → bad_written s l o ≡ [] → IfThere (LiteralLong s.text) o
default_long s l None e = tt
default_long s l (Some literal) e = literal_long s (Some 255) l literal (holds (fits_literal s (Some 255) l literal) s.file (literal_start literal) BadDefault e)

members_read : (s : Scene) (ms : List MemberTree) → AllByRecursion (MemberIn s.text) ms → AllByRecursion (λ m. tag_range s [] m ≡ []) ms → AllByRecursion (λ (m : MemberTree). bad_written s (out-TypeTree m.typed.ty) m.default ≡ []) ms
    → AllByRecursion (MemberReads s.text) ms
members_read s [] a b c = tt
members_read s (m ∷ ms) a b c =
    (record { inside = a.0; tag = holds (is_unsigned 8 (tag_of s m)) s.file m.tag.start TagRange b.0; default = default_long s (out-TypeTree m.typed.ty) m.default c.0 }, members_read s ms a.1 b.1 c.1)

module _ (d : Declared) (text home : List ℕ) where
  pub struct_reads : (t : StructTree) → CanAdd d text home (decls.Struct t) → All (MemberReads text) t.members
  struct_reads t add =
      let s = scene_at add.can.state (item add.file text home (declared (decls.Struct t))) in
      All-from_recursion (MemberReads text) t.members
      (members_read s t.members (recursion_from_All (MemberIn text) t.members add.stands.inside.1) (alone_nothing (λ m. tag_range s [] m) [] t.members add.can.faultless.0.tag_range)
      (alone_nothing (λ (m : MemberTree). bad_written s (out-TypeTree m.typed.ty) m.default) [] t.members add.can.faultless.0.bad_default))

  pub enum_reads : (t : EnumTree) → CanAdd d text home (decls.Enum t) → AllByRecursion (λ (i : Enumerator). is_signed 31 i.number ≡ true) (items_after text [] t.items)
  enum_reads t add = enum_ints (scene_at add.can.state (item add.file text home (declared (decls.Enum t)))) d add.can.agrees t add.can.faultless.0 add.stands.inside

  pub const_reads : (c : ConstTree) → CanAdd d text home (decls.Const c) → LiteralLong text c.value
  const_reads c add =
      let s = scene_at add.can.state (item add.file text home (declared (decls.Const c))) in
      literal_long s None (out-TypeTree c.typed.ty) c.value
      (holds (fits_literal s None (out-TypeTree c.typed.ty) c.value) s.file (literal_start c.value) BadDefault (alone_nothing (λ c. bad_const s [] c) [] (c ∷ []) add.can.faultless.0.bad_const).0)
