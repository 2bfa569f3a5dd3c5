-- A literal that fits the type that is written is a value of it.
use Rattle.std.proofs.Common.{◌≡◌, ◌⊎◌, inl, inr, drop, ◌<◌, ◌≤◌, ◌^◌, ◌-◌, ℕ, ℤ, Bool, true, false, ◌&&◌, cond, Option, Some, None, List, [], ◌∷◌, length, refl, sym, ap, ◌∙◌, subst, arith, lt-ltb}
use Rattle.std.proofs.lemmas.List.{length-take, length-drop}
use Rattle.std.proofs.lemmas.Bool.Decides.{nat_tests}
use Rattle.std.proofs.lemmas.List.Elements.{All-nil, All-same}
use Rattle.std.specs.List.{AllByRecursion, list_any}
use Rattle.std.specs.Prelude.{slice_range}
use Rattle.std.specs.Str.{bytes_eq}
use Rattle.tars_model.specs.Declarations.{Declared, items_at}
use Rattle.tars_model.specs.Schemas.{IsLiteral, is_single, text_bytes, text_length}
use Rattle.tars_model.specs.Values.{is_signed, is_number_of, is_bool, fits_text}
use Rattle.tars_model.specs.declared.enum_desc.Item.{Item as Enumerator}
use Rattle.tars_model.specs.declared.ty.Ty.{Ty, out-Ty}
use Rattle.tars_model.specs.declared.ty.Ty.TheOpen as ty
use Rattle.tars_model.specs.declared.ty.Ty.TheVariants.{outs-Bool, outs-Byte, outs-Short, outs-Int, outs-Long, outs-Text, outs-UByte, outs-UShort, outs-UInt, outs-Enum}
use Rattle.tars_model.specs.declared.value.Value.{Value, out-Value}
use Rattle.tars_model.specs.declared.value.Value.TheVariants as values
use Rattle.tars_model.specs.declared.value.Value.TheVariants.{outs-Bool as outs-Truth, outs-Num, outs-Text as outs-Words}
use Rattle.tars_model.proofs.ToldLaws.{told_fits_bool, told_fits_num, told_fits_text}
use Rattle.idl_lex.proofs.CallerLemmas.{unescaped_length}
use Rattle.idl_lex.specs.Meanings.{whole_number, plain_text}
use Rattle.idl_parse.specs.TreeSpans as tree
use Rattle.idl_parse.specs.TreeSpans.{TypeIn, LiteralIn}
use Rattle.idl_lex.specs.declared.span.Span.{Span}
use Rattle.idl_parse.specs.declared.tree.literal.Literal.{Literal}
use Rattle.idl_parse.specs.declared.tree.literal.Literal.TheVariants as literals
use Rattle.idl_parse.specs.declared.tree.literal.LiteralWord.{LiteralWord}
use Rattle.idl_parse.specs.declared.tree.literal.LiteralWord.TheVariants as words
use Rattle.idl_parse.specs.declared.tree.type_tree.BasicType.{BasicType}
use Rattle.idl_parse.specs.declared.tree.type_tree.BasicType.TheVariants as basics
use Rattle.idl_parse.specs.declared.tree.type_tree.ScopedName.{ScopedName}
use Rattle.idl_parse.specs.declared.tree.type_tree.TypeTree.{TypeTree, out-TypeTree}
use Rattle.idl_parse.specs.declared.tree.type_tree.TypeTree.TheOpen as layer
use Rattle.idl_parse.specs.declared.tree.type_tree.TypeTree.TheVariants as types
use Rattle.idl_parse.specs.declared.tree.type_tree.TypeTree.TheVariants.{outs-Basic, outs-Vector, outs-Map, outs-Named}
use Rattle.idl_scene.specs.Items.{word}
use Rattle.idl_scene.specs.Known.{Meaning, a_struct, an_enum, no_type, Scene, is_enum, enumerators_of}
use Rattle.idl_scene.specs.Literals as check
use Rattle.idl_scene.specs.Literals.{is_number_of_word, fits_number, fits_literal, fits_name, names_enum}
use Rattle.idl_scene.specs.Types.{TypeLayer, meaning_of, is_type}
use Rattle.idl_schema.specs.Agreement.{MeansIn, struct_meant, enum_meant, no_type_meant, Agrees, place_in}
use Rattle.idl_schema.specs.Faultless.{AreBytes}
use Rattle.idl_schema.specs.SchemaOf.{basic_type, number_named, items_of_type, literal_value}
use Rattle.idl_schema.proofs.Meant.{meant_type, enum_type, name_means}
use Rattle.idl_schema.proofs.SpelledBytes.{spelled_bytes}
use Rattle.idl_schema.proofs.TypeFits.{written, written_at}

-- ---- tests

both_true : (a b : Bool) → (a && b) ≡ true → (a ≡ true) × (b ≡ true)
both_true true b e = (refl, e)
both_true false b e = cc

not_both : {A : Type 0} (b : Bool) → b ≡ true → b ≡ false → A
not_both true a b = absurd cc
not_both false a b = absurd cc

-- ---- lengths

slice_length : (bytes : List ℕ) (start end : ℕ) → length (slice_range bytes start end) ≤ length bytes
slice_length bytes start end = let cut = length-take (end - start) (drop start bytes) in let left = length-drop start bytes in omega arith

-- the text that a literal spells is no longer than the file
pub text_short : (text : List ℕ) (span : Span) → length text < 2 ^ 32 → length (plain_text (word text span)) < 2 ^ 32
text_short text span short =
    let w = word text span in
    let whole = slice_length text span.start span.end in
    let inside = slice_length w 1 (length w - 1) in
    let spelled = unescaped_length (slice_range w 1 (length w - 1)) in
    omega arith

-- ---- types of one value

basic_number : (w : BasicType) (n : ℤ) → is_number_of_word w n ≡ is_number_of (out-Ty (basic_type w)) n ⊎ (is_number_of_word w n ≡ false)
basic_number basics.Bool n = inr refl
basic_number basics.Byte n = inl (sym (ap (λ l. is_number_of l n) outs-Byte))
basic_number basics.Short n = inl (sym (ap (λ l. is_number_of l n) outs-Short))
basic_number basics.Int n = inl (sym (ap (λ l. is_number_of l n) outs-Int))
basic_number basics.Long n = inl (sym (ap (λ l. is_number_of l n) outs-Long))
basic_number basics.Float n = inr refl
basic_number basics.Double n = inr refl
basic_number basics.Text n = inr refl
basic_number basics.UnsignedByte n = inl (sym (ap (λ l. is_number_of l n) outs-UByte))
basic_number basics.UnsignedShort n = inl (sym (ap (λ l. is_number_of l n) outs-UShort))
basic_number basics.UnsignedInt n = inl (sym (ap (λ l. is_number_of l n) outs-UInt))

number_single : (l : ty.Ty-F Ty) (n : ℤ) → is_number_of l n ≡ true → is_single l ≡ true
number_single (ty.Struct number) n is = cc
number_single (ty.Vector of) n is = cc
number_single (ty.Map key value) n is = cc
number_single _ n is = refl

-- numbers of the enumerators are ints
number_is_int : (name : List ℕ) (items : List Enumerator) → AllByRecursion (λ (i : Enumerator). is_signed 31 i.number ≡ true) items → is_signed 31 (number_named name items) ≡ true
number_is_int name [] ints = refl
number_is_int name (i ∷ items) ints = by_test (bytes_eq name i.name) (number_named name items) ints.0 (number_is_int name items ints.1)
  where
    by_test : (b : Bool) (rest : ℤ) → is_signed 31 i.number ≡ true → is_signed 31 rest ≡ true → is_signed 31 (cond b i.number rest) ≡ true
    by_test true rest here later = here
    by_test false rest here later = later

none_listed : (name : List ℕ) (m : Option Meaning) → is_type m ≡ false → list_any (bytes_eq name) (enumerators_of m) ≡ false
none_listed name None none = refl
none_listed name (Some (a_struct depth size members)) none = cc
none_listed name (Some (an_enum names)) none = cc
none_listed name (Some no_type) none = refl

module _ (s : Scene) (d : Declared) (agrees : Agrees (record { known = s.known; room = s.room }) d) where
  -- a number of the type
  abbrev TakesNumber : TypeTree → ℤ → Type 0
  TakesNumber t n = is_number_of (out-Ty (written s d t)) n ≡ true

  enum_takes : (t : TypeTree) (name : ScopedName) (n : ℤ) → t ≡ types.Named name → is_enum (meaning_of s name) ≡ true → is_signed 31 n ≡ true → TakesNumber t n
  enum_takes t name n is of_enum int =
      ap (λ w. is_number_of (out-Ty w) n) (written_at s d t (layer.Named name) (ap out-TypeTree is ∙ outs-Named name)) ∙ by_meaning (meaning_of s name) _ _ (name_means s d agrees name) of_enum
    where
      by_meaning : (m : Option Meaning) (sn en : Option ℕ) → MeansIn d m sn en → is_enum m ≡ true → is_number_of (out-Ty (meant_type sn en)) n ≡ true
      by_meaning m sn en (struct_meant is_m is_s st) e = not_both (is_enum m) e (ap is_enum is_m)
      by_meaning m sn en (enum_meant {number = number} is_m no_struct is_e enum) e =
          ap (λ l. is_number_of l n) (ap out-Ty (enum_type sn en number no_struct is_e) ∙ outs-Enum number) ∙ int
      by_meaning m sn en (no_type_meant none a b) e = not_both (is_type m) (type_too m e) none
        where
          type_too : (m : Option Meaning) → is_enum m ≡ true → is_type m ≡ true
          type_too None e = cc
          type_too (Some (a_struct depth size members)) e = cc
          type_too (Some (an_enum names)) e = refl
          type_too (Some no_type) e = cc

  number_fits : {t : TypeTree} → TypeIn s.text t → (n : ℤ) → fits_number s (out-TypeTree t) n ≡ true → TakesNumber t n
  number_fits {t} (tree.basic {at = at} {word = w} is) n fits =
      ap (λ w. is_number_of (out-Ty w) n) (written_at s d t (layer.Basic at w) (ap out-TypeTree is ∙ outs-Basic at w))
      ∙ by_word (basic_number w n) (sym (ap (λ l. fits_number s l n) (ap out-TypeTree is ∙ outs-Basic at w)) ∙ fits)
    where
      by_word : (is_number_of_word w n ≡ is_number_of (out-Ty (basic_type w)) n ⊎ (is_number_of_word w n ≡ false)) → is_number_of_word w n ≡ true → is_number_of (out-Ty (basic_type w)) n ≡ true
      by_word (inl same) e = sym same ∙ e
      by_word (inr none) e = not_both (is_number_of_word w n) e none
  number_fits {t} (tree.named {name = name} is inside) n fits =
      let both = both_true (is_enum (meaning_of s name)) (is_signed 31 n) (sym (ap (λ l. fits_number s l n) (ap out-TypeTree is ∙ outs-Named name)) ∙ fits) in
      enum_takes t name n is both.0 both.1
  number_fits {t} (tree.vector {element = element} {at = at} is inside) n fits =
      not_both (fits_number s (out-TypeTree t) n) fits (ap (λ l. fits_number s l n) (ap out-TypeTree is ∙ outs-Vector at element))
  number_fits {t} (tree.map {key = k} {value = v} {at = at} is a b) n fits =
      not_both (fits_number s (out-TypeTree t) n) fits (ap (λ l. fits_number s l n) (ap out-TypeTree is ∙ outs-Map at k v))

  -- the type is `string`, or `bool`
  text_layer : (l : TypeLayer) → check.is_text l ≡ true → (at : ℕ) × (l ≡ layer.Basic at basics.Text)
  text_layer (layer.Basic at basics.Text) e = (at, refl)
  text_layer _ e = cc

  bool_layer : (l : TypeLayer) → check.is_bool l ≡ true → (at : ℕ) × (l ≡ layer.Basic at basics.Bool)
  bool_layer (layer.Basic at basics.Bool) e = (at, refl)
  bool_layer _ e = cc

  text_type : (t : TypeTree) → check.is_text (out-TypeTree t) ≡ true → out-Ty (written s d t) ≡ ty.Text
  text_type t e = let l = text_layer (out-TypeTree t) e in ap out-Ty (written_at s d t (layer.Basic l.0 basics.Text) l.1) ∙ outs-Text

  bool_type : (t : TypeTree) → check.is_bool (out-TypeTree t) ≡ true → out-Ty (written s d t) ≡ ty.Bool
  bool_type t e = let l = bool_layer (out-TypeTree t) e in ap out-Ty (written_at s d t (layer.Basic l.0 basics.Bool) l.1) ∙ outs-Bool

  -- ---- values

  no_bytes : (v : Value) → text_bytes (out-Value v) ≡ [] → AreBytes (text_bytes (out-Value v))
  no_bytes v none = All-same (λ b. b < 256) (text_bytes (out-Value v)) [] none (All-nil (λ b. b < 256))

  num_literal : (t : Ty) (n : ℤ) → is_number_of (out-Ty t) n ≡ true → IsLiteral d t (values.Num n)
  num_literal t n is = record { single = number_single (out-Ty t) n is; is_value = told_fits_num (values.Num n) d t n refl ∙ is; bytes = no_bytes (values.Num n) (ap text_bytes (outs-Num n)) }

  bool_literal : (t : Ty) (b : Bool) → out-Ty t ≡ ty.Bool → IsLiteral d t (values.Bool b)
  bool_literal t b is = record { single = ap is_single is; is_value = told_fits_bool (values.Bool b) d t b refl ∙ ap is_bool is; bytes = no_bytes (values.Bool b) (ap text_bytes (outs-Truth b)) }

  text_literal : (t : Ty) (bytes : List ℕ) → out-Ty t ≡ ty.Text → length bytes < 2 ^ 32 → AreBytes bytes → IsLiteral d t (values.Text bytes)
  text_literal t bytes is short each = record {
    single = ap is_single is;
    is_value = told_fits_text (values.Text bytes) d t bytes refl ∙ ap (fits_text (length bytes)) is ∙ lt-ltb (length bytes) (2 ^ 32) short;
    bytes = All-same (λ b. b < 256) (text_bytes (out-Value (values.Text bytes))) bytes (ap text_bytes (outs-Words bytes)) each;
  }

  abbrev pub AtMost : Option ℕ → Value → Type 0
  AtMost None v = Unit {0}
  AtMost (Some most) v = text_length (out-Value v) ≤ most

  -- what is said of the value of a literal
  pub record Spells (most : Option ℕ) (t : Ty) (v : Value) : Type 0 where
    pub is_literal : IsLiteral d t v
    pub few : AtMost most v

  num_few : (most : Option ℕ) (n : ℤ) → AtMost most (values.Num n)
  num_few None n = tt
  num_few (Some most) n = subst (λ (k : ℕ). k ≤ most) (sym (ap text_length (outs-Num n))) (omega arith)

  bool_few : (most : Option ℕ) (b : Bool) → AtMost most (values.Bool b)
  bool_few None b = tt
  bool_few (Some most) b = subst (λ (k : ℕ). k ≤ most) (sym (ap text_length (outs-Truth b))) (omega arith)

  text_few : (most : Option ℕ) (bytes : List ℕ) → check.is_short most bytes ≡ true → AtMost most (values.Text bytes)
  text_few None bytes e = tt
  text_few (Some most) bytes e = subst (λ (k : ℕ). k ≤ most) (sym (ap text_length (outs-Words bytes))) (grind (arith, nat_tests))

  -- an enumerator
  name_layer : (l : TypeLayer) (name : ScopedName) → fits_name s l name ≡ true → (of : ScopedName) × (l ≡ layer.Named of) × (list_any (bytes_eq (word s.text name.name)) (enumerators_of (meaning_of s of)) ≡ true)
  name_layer (layer.Named of) name e = (of, refl, (both_true (names_enum s of name.scope) _ e).1)
  name_layer (layer.Basic at basic) name e = absurd cc
  name_layer (layer.Vector at element) name e = absurd cc
  name_layer (layer.Map at k v) name e = absurd cc

  named_fits : (t : TypeTree) (name : ScopedName) → fits_name s (out-TypeTree t) name ≡ true → TakesNumber t (number_named (word s.text name.name) (items_of_type d (out-Ty (written s d t))))
  named_fits t name e =
      let l = name_layer (out-TypeTree t) name e in
      subst (λ (w : Ty). is_number_of (out-Ty w) (number_named (word s.text name.name) (items_of_type d (out-Ty w))) ≡ true) (sym (written_at s d t (layer.Named l.0) l.1))
      (by_meaning (meaning_of s l.0) _ _ (name_means s d agrees l.0) l.2)
    where
      by_meaning : (m : Option Meaning) (sn en : Option ℕ) → MeansIn d m sn en → list_any (bytes_eq (word s.text name.name)) (enumerators_of m) ≡ true → is_number_of (out-Ty (meant_type sn en)) (number_named (word s.text name.name) (items_of_type d (out-Ty (meant_type sn en)))) ≡ true
      by_meaning m sn en (struct_meant is_m is_s st) e = not_both _ e (ap (λ o. list_any (bytes_eq (word s.text name.name)) (enumerators_of o)) is_m)
      by_meaning m sn en (enum_meant {number = number} is_m no_struct is_e enum) e =
          subst (λ (l : ty.Ty-F Ty). is_number_of l (number_named (word s.text name.name) (items_of_type d l)) ≡ true)
          (sym (ap out-Ty (enum_type sn en number no_struct is_e) ∙ outs-Enum number)) (number_is_int (word s.text name.name) (items_at d number) enum.ints)
      by_meaning m sn en (no_type_meant none a b) e = not_both _ e (none_listed (word s.text name.name) m none)

  word_spells : (most : Option ℕ) {t : TypeTree} → TypeIn s.text t → (form : LiteralWord) (span : Span) → LiteralIn s.text (literals.Word form span) → length s.text < 2 ^ 32 → AreBytes s.text
      → fits_literal s most (out-TypeTree t) (literals.Word form span) ≡ true → Spells most (written s d t) (literal_value (place_in d s) (written s d t) (literals.Word form span))
  word_spells most {t} inside words.Number span at short bytes fits =
      record { is_literal = num_literal (written s d t) _ (number_fits inside (whole_number (word s.text span)) fits); few = num_few most _ }
  word_spells most {t} inside words.Fraction span at short bytes fits = absurd cc
  word_spells most {t} inside words.Text span at short bytes fits =
      let both = both_true (check.is_text (out-TypeTree t)) (check.is_short most (plain_text (word s.text span))) fits in
      record { is_literal = text_literal (written s d t) _ (text_type t both.0) (text_short s.text span short) (spelled_bytes s.text span at.2 bytes); few = text_few most _ both.1 }
  word_spells most {t} inside words.True span at short bytes fits = record { is_literal = bool_literal (written s d t) true (bool_type t fits); few = bool_few most true }
  word_spells most {t} inside words.False span at short bytes fits = record { is_literal = bool_literal (written s d t) false (bool_type t fits); few = bool_few most false }

  pub literal_spells : (most : Option ℕ) {t : TypeTree} → TypeIn s.text t → (l : Literal) → LiteralIn s.text l → length s.text < 2 ^ 32 → AreBytes s.text
      → fits_literal s most (out-TypeTree t) l ≡ true → Spells most (written s d t) (literal_value (place_in d s) (written s d t) l)
  literal_spells most {t} inside (literals.Word form span) at short bytes fits = word_spells most inside form span at short bytes fits
  literal_spells most {t} inside (literals.Named name) at short bytes fits = record { is_literal = num_literal (written s d t) _ (named_fits t name fits); few = num_few most _ }
