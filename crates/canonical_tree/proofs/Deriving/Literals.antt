-- The pieces of a literal derive a tree that says the value, and what is no absent default can be written.
use Rattle.std.proofs.Common.{◌≡◌, ◌<◌, ◌≤◌, ◌^◌, ℕ, ℤ, pos, negsuc, Bool, true, false, if◌then◌else◌, List, [], length, refl, sym, ap, ◌∙◌, subst, arith, map, int_eq, true≢false}
use Rattle.std.proofs.lemmas.Bool.Decides.{nat_tests, Decides-int_eq}
use Rattle.std.proofs.lemmas.List.Elements.{recursion_from_All}
use Rattle.std.specs.List.{AllByRecursion}
use Rattle.tars_model.proofs.CallerLemmas.{told_out}
use Rattle.tars_model.specs.Declarations.{Declared, members_at, items_at, enum_items}
use Rattle.tars_model.specs.Schemas.{IsLiteral, IsDefault, absent, literal, is_single, text_bytes}
use Rattle.tars_model.specs.Types.{TyLayer, IsType, plain, enum, struct, vector, map as a_map}
use Rattle.tars_model.specs.Values.{Told, told, told_entry, fits_layer, fits_blob, fits_list, fits_map, fits_struct, defaults_of, is_number_of, is_signed, is_unsigned, is_byte, first_number, default_layer, default_of}
use Rattle.tars_model.specs.declared.ty.Ty.{Ty, out-Ty}
use Rattle.tars_model.specs.declared.ty.Ty.TheOpen as ty
use Rattle.tars_model.specs.declared.value.Pair.{Pair}
use Rattle.tars_model.specs.declared.value.Value.{Value, out-Value, map-Value}
use Rattle.tars_model.specs.declared.value.Value.TheOpen as value
use Rattle.tars_model.specs.declared.value.Value.TheVariants as values
use Rattle.tars_model.specs.declared.value.Value.TheVariants.{outs-Bool, outs-Num, outs-Text, outs-Blob, outs-List, outs-Map, outs-Struct}
use Rattle.canonical_text.specs.Canonical.{quoted, is_absent}
use Rattle.idl_lex.proofs.CallerLemmas.{text_read}
use Rattle.idl_parse.specs.Grammar.{LiteralOf}
use Rattle.idl_lex.specs.Meanings.{plain_text}
use Rattle.idl_parse.specs.Words.{literal_of}
use Rattle.idl_lex.specs.declared.keyword.Keyword.TheVariants as words
use Rattle.idl_lex.specs.declared.kind.Kind.TheVariants as kinds
use Rattle.idl_parse.specs.declared.tree.literal.LiteralWord.TheVariants as forms
use Rattle.canonical_tree.specs.Pieces.{literal_piece, literal_pieces}
use Rattle.canonical_tree.specs.Says.{LiteralSays}
use Rattle.canonical_tree.proofs.DeclFits.{IsPrefixOf, get_longer}
use Rattle.canonical_tree.proofs.Deriving.Kit.{Derives, done, means, in_right}
use Rattle.canonical_tree.proofs.Deriving.Texts.{quoted_spells}
use Rattle.canonical_tree.proofs.Deriving.Types.{there}
use Rattle.canonical_tree.proofs.Deriving.Words.{IsLong, number_says, word_stands}

abbrev ValueLayer : Type 0
ValueLayer = value.Value-F Value Pair

-- a value that has a literal
abbrev pub HasLiteral : value.Value-F Value Pair → Type 0
HasLiteral (value.Bool b) = Unit {0}
HasLiteral (value.Num n) = IsLong n
HasLiteral (value.Text bytes) = AllByRecursion (λ b. b < 256) bytes
HasLiteral _ = ⊥

layer_derives : (text : List ℕ) (v : Value) (l : ValueLayer) → out-Value v ≡ l → HasLiteral l → Derives text LiteralOf (LiteralSays text v) (literal_piece l)
layer_derives text v (value.Bool true) is has = in_right (means literal_of forms.True refl (λ _ at. done (LiteralSays.yes refl (word_stands (kinds.Keyword words.True) refl (omega arith) at) is)))
layer_derives text v (value.Bool false) is has = in_right (means literal_of forms.False refl (λ _ at. done (LiteralSays.no refl (word_stands (kinds.Keyword words.False) refl (omega arith) at) is)))
layer_derives text v (value.Num n) is has = in_right (means literal_of forms.Number refl (λ _ at. done (LiteralSays.number refl (number_says n has at) is)))
layer_derives text v (value.Text bytes) is has =
    let spells = quoted_spells bytes has in
    in_right (means literal_of forms.Text refl (λ _ at.
    done (LiteralSays.text_in_quotes refl (word_stands kinds.Text (bytes, spells) (omega (arith, ap length spells.1)) at) (ap plain_text at.is ∙ text_read bytes (quoted bytes) spells) is)))
layer_derives text v (value.Blob bytes) is has = absurd has
layer_derives text v (value.List vs) is has = absurd has
layer_derives text v (value.Map ps) is has = absurd has
layer_derives text v (value.Struct vs) is has = absurd has

pub literal_derives : (text : List ℕ) (v : Value) → HasLiteral (out-Value v) → Derives text LiteralOf (LiteralSays text v) (literal_pieces v)
unfolding literal_pieces
literal_derives text v has = layer_derives text v (out-Value v) refl has

-- ---- literals of a schema

signed_long : (bits : ℕ) (n : ℤ) → 2 ^ bits ≤ 2 ^ 63 → is_signed bits n ≡ true → IsLong n
signed_long bits (pos n) less e = grind (arith, nat_tests)
signed_long bits (negsuc n) less e = grind (arith, nat_tests)

unsigned_long : (bits : ℕ) (n : ℤ) → 2 ^ bits ≤ 2 ^ 63 → is_unsigned bits n ≡ true → IsLong n
unsigned_long bits (pos n) less e = grind (arith, nat_tests)
unsigned_long bits (negsuc n) less e = absurd cc

pub int_long : (n : ℤ) → is_signed 31 n ≡ true → IsLong n
int_long n e = signed_long 31 n (omega arith) e

number_long : (t : TyLayer) (n : ℤ) → is_number_of t n ≡ true → IsLong n
number_long ty.Byte n e = signed_long 7 n (omega arith) e
number_long ty.Short n e = signed_long 15 n (omega arith) e
number_long ty.Int n e = signed_long 31 n (omega arith) e
number_long ty.Long n e = e
number_long ty.UByte n e = unsigned_long 8 n (omega arith) e
number_long ty.UShort n e = unsigned_long 16 n (omega arith) e
number_long ty.UInt n e = unsigned_long 32 n (omega arith) e
number_long (ty.Enum k) n e = signed_long 31 n (omega arith) e
number_long ty.Bool n e = absurd cc
number_long ty.Text n e = absurd cc
number_long (ty.Struct k) n e = absurd cc
number_long (ty.Vector of) n e = absurd cc
number_long (ty.Map key to) n e = absurd cc

-- a type without parts has no values with parts
no_parts : (t : TyLayer) → is_single t ≡ true → ((size : ℕ) → fits_blob size t ≡ true → ⊥) × ((vs : List Told) (d : Declared) → fits_list vs d t ≡ true → ⊥)
    × ((ps : List (Told × Told)) (d : Declared) → fits_map ps d t ≡ true → ⊥) × ((vs : List Told) (d : Declared) → fits_struct vs d t ≡ true → ⊥)
no_parts (ty.Vector of) single = absurd cc
no_parts (ty.Map key to) single = absurd cc
no_parts (ty.Struct k) single = absurd cc
no_parts _ single = (λ size e. cc, λ vs d e. cc, λ ps d e. cc, λ vs d e. cc)

layer_has : (d : Declared) (t : Ty) (l : ValueLayer) → is_single (out-Ty t) ≡ true → fits_layer (map-Value Value Pair Told (Told × Told) told told_entry l) d (out-Ty t) ≡ true
    → AllByRecursion (λ b. b < 256) (text_bytes l) → HasLiteral l
layer_has d t (value.Bool b) single e bytes = tt
layer_has d t (value.Num n) single e bytes = number_long (out-Ty t) n e
layer_has d t (value.Text text) single e bytes = bytes
layer_has d t (value.Blob blob) single e bytes = absurd ((no_parts (out-Ty t) single).0 (length blob) e)
layer_has d t (value.List vs) single e bytes = absurd ((no_parts (out-Ty t) single).1 (map told vs) d e)
layer_has d t (value.Map ps) single e bytes = absurd ((no_parts (out-Ty t) single).2 (map told_entry ps) d e)
layer_has d t (value.Struct vs) single e bytes = absurd ((no_parts (out-Ty t) single).3 (map told vs) d e)

pub literal_has : (d : Declared) (t : Ty) (v : Value) → IsLiteral d t v → HasLiteral (out-Value v)
literal_has d t v is =
    layer_has d t (out-Value v) is.single (sym (ap (λ (w : Told). w.fits d t) (told_out v)) ∙ is.is_value)
    (recursion_from_All (λ b. b < 256) (text_bytes (out-Value v)) is.bytes)

-- ---- absent defaults

same_number : (n : ℤ) → int_eq n n ≡ true
same_number n = (Decides-int_eq n n).1 refl

abbrev enum_layer : ℕ → TyLayer
enum_layer k = ty.Enum k

same_enum : (j k : ℕ) → enum_layer j ≡ enum_layer k → j ≡ k
same_enum j k same = cc

at_enum : {enums structs : ℕ} {t : Ty} (k : ℕ) → IsType enums structs t → out-Ty t ≡ ty.Enum k → k < enums
at_enum k (plain p) is = absurd cc
at_enum {enums = enums} k (enum {number = number} same less) is = subst (λ n. n < enums) (same_enum number k (sym same ∙ is)) less
at_enum k (struct same less) is = absurd cc
at_enum k (vector same other of) is = absurd cc
at_enum k (a_map same good key to) is = absurd cc

same_items : (e d : Declared) (k : ℕ) → IsPrefixOf e d → k < length e.enums → items_at e k ≡ items_at d k
same_items e d k before less =
    let found = there e.enums k less in
    ap enum_items (found.1 ∙ sym (get_longer e.enums d.enums k found.0 before.enums found.1))

vector_absent : (d : Declared) (of : Ty) (b : Bool) → is_absent d (ty.Vector of) (out-Value (if b then values.Blob [] else values.List [])) ≡ true
vector_absent d of true = ap (is_absent d (ty.Vector of)) (outs-Blob [])
vector_absent d of false = ap (is_absent d (ty.Vector of)) (outs-List [])

layer_absent : (e d : Declared) (t : TyLayer) → ((k : ℕ) → t ≡ ty.Enum k → items_at e k ≡ items_at d k) → is_absent d t (out-Value (default_layer e t)) ≡ true
layer_absent e d ty.Bool items = ap (is_absent d ty.Bool) (outs-Bool false)
layer_absent e d ty.Text items = ap (is_absent d ty.Text) (outs-Text [])
layer_absent e d (ty.Enum k) items =
    ap (is_absent d (ty.Enum k)) (outs-Num (first_number (items_at e k))) ∙ ap (λ i. int_eq (first_number i) (first_number (items_at d k))) (items k refl) ∙ same_number (first_number (items_at d k))
layer_absent e d (ty.Struct k) items = ap (is_absent d (ty.Struct k)) (outs-Struct (defaults_of (members_at e k)))
layer_absent e d (ty.Map key to) items = ap (is_absent d (ty.Map key to)) (outs-Map [])
layer_absent e d (ty.Vector of) items = vector_absent d of (is_byte (out-Ty of))
layer_absent e d ty.Byte items = ap (is_absent d ty.Byte) (outs-Num (pos 0))
layer_absent e d ty.Short items = ap (is_absent d ty.Short) (outs-Num (pos 0))
layer_absent e d ty.Int items = ap (is_absent d ty.Int) (outs-Num (pos 0))
layer_absent e d ty.Long items = ap (is_absent d ty.Long) (outs-Num (pos 0))
layer_absent e d ty.UByte items = ap (is_absent d ty.UByte) (outs-Num (pos 0))
layer_absent e d ty.UShort items = ap (is_absent d ty.UShort) (outs-Num (pos 0))
layer_absent e d ty.UInt items = ap (is_absent d ty.UInt) (outs-Num (pos 0))

-- a default that is written has a literal
pub written_has : (e d : Declared) (t : Ty) (v : Value) → IsPrefixOf e d → IsType (length e.enums) (length e.structs) t → IsDefault e t v → is_absent d (out-Ty t) (out-Value v) ≡ false
    → HasLiteral (out-Value v)
written_has e d t v before is_type (absent is) written = absurd (clash is written)
  where
    clash : v ≡ default_of e t → is_absent d (out-Ty t) (out-Value v) ≡ false → ⊥
    clash is written =
        let none = layer_absent e d (out-Ty t) (λ k at. same_items e d k before (at_enum k is_type at)) in
        true≢false (sym none ∙ ap (λ v. is_absent d (out-Ty t) (out-Value v)) (sym is) ∙ written)
written_has e d t v before is_type (literal is few) written = literal_has e t v is
