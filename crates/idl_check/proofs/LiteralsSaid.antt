-- A literal that says a value of its type has no fault, and means the value; a default that is left out is the absent one.
use Rattle.std.proofs.Common.{◌≡◌, ◌≤◌, ◌==◌, ℕ, suc, ℤ, pos, Bool, true, false, ◌&&◌, cond, Option, Some, None, List, [], ◌∷◌, length, refl, sym, ap, ◌∙◌, subst, arith}
use Rattle.std.proofs.lemmas.Bool.Decides.{nat_tests, Decides-int_eq}
use Rattle.std.specs.Ordering.{int_eq}
use Rattle.std.specs.Prelude.{map as mapped}
use Rattle.tars_model.specs.Declarations.{Declared, items_at, enum_items}
use Rattle.tars_model.specs.Schemas.{IsLiteral, IsDefault, absent, literal, is_single, text_length}
use Rattle.tars_model.specs.Types.{TyLayer}
use Rattle.tars_model.specs.Values.{is_signed, is_number_of, is_byte, is_bool, fits_text, fits_blob, fits_list, fits_map, fits_struct, first_number, default_of, default_layer, told, told_entry}
use Rattle.tars_model.specs.declared.ty.Ty.{Ty, out-Ty}
use Rattle.tars_model.specs.declared.ty.Ty.TheOpen as ty
use Rattle.tars_model.specs.declared.value.Pair.{Pair}
use Rattle.tars_model.specs.declared.value.Value.{Value, out-Value, roll-Value, roll-out-Value}
use Rattle.tars_model.specs.declared.value.Value.TheOpen as value
use Rattle.tars_model.specs.declared.value.Value.TheVariants as values
use Rattle.tars_model.specs.declared.value.Value.TheVariants.{outs-Bool as outs-Truth, outs-Num, outs-Text as outs-Words, outs-Blob, outs-List, outs-Map as outs-Pairs, outs-Struct as outs-Members, rolls-Bool, rolls-Num, rolls-Text, rolls-Blob, rolls-List, rolls-Map, rolls-Struct}
use Rattle.tars_model.proofs.ToldLaws.{told_fits_bool, told_fits_num, told_fits_text, told_fits_blob, told_fits_list, told_fits_map, told_fits_struct}
use Rattle.canonical_text.specs.Canonical.{is_absent}
use Rattle.canonical_tree.specs.Says.{TypeSays, basic, enum, struct, vector, map, LiteralSays, yes as says_true, no as says_false, number as says_number, text_in_quotes as says_text, DefaultSays}
use Rattle.idl_parse.specs.declared.tree.literal.Literal.{Literal}
use Rattle.idl_parse.specs.declared.tree.type_tree.BasicType.{BasicType}
use Rattle.idl_parse.specs.declared.tree.type_tree.BasicType.TheVariants as basics
use Rattle.idl_parse.specs.declared.tree.type_tree.TypeTree.{TypeTree, out-TypeTree}
use Rattle.idl_parse.specs.declared.tree.type_tree.TypeTree.TheOpen as layer
use Rattle.idl_parse.specs.declared.tree.type_tree.TypeTree.TheVariants.{outs-Basic, outs-Named}
use Rattle.idl_scene.specs.Known.{Scene, is_enum}
use Rattle.idl_scene.specs.Literals as check
use Rattle.idl_scene.specs.Literals.{is_number_of_word, fits_number, fits_literal, is_short, literal_start}
use Rattle.idl_scene.specs.Types.{is_float, meaning_of}
use Rattle.idl_scene.specs.declared.check_fault.CheckWhy.TheVariants.{BadDefault}
use Rattle.idl_rules.specs.Rules.{bad_written}
use Rattle.idl_schema.specs.Agreement.{place_in}
use Rattle.idl_schema.specs.SchemaOf.{literal_value, default_value}
use Rattle.idl_check.proofs.Finding.{never, no_fault_unless}
use Rattle.idl_check.proofs.TypeLayers.{layer_of, said_word, enum_within}
use Rattle.idl_check.proofs.TypesSaid.{Here, Declarable, enum_is_meant}

-- ---- values by their layer

abbrev ValueLayer : Type 0
ValueLayer = value.Value-F Value Pair

value_is : (v : Value) (l : ValueLayer) → out-Value v ≡ l → v ≡ roll-Value l
value_is v l e = sym (roll-out-Value v) ∙ ap roll-Value e

bool_is : (v : Value) (b : Bool) → out-Value v ≡ value.Bool b → v ≡ values.Bool b
bool_is v b e = value_is v (value.Bool b) e ∙ rolls-Bool b

num_is : (v : Value) (n : ℤ) → out-Value v ≡ value.Num n → v ≡ values.Num n
num_is v n e = value_is v (value.Num n) e ∙ rolls-Num n

text_is : (v : Value) (bytes : List ℕ) → out-Value v ≡ value.Text bytes → v ≡ values.Text bytes
text_is v bytes e = value_is v (value.Text bytes) e ∙ rolls-Text bytes

-- ---- types by the values that they take

takes_bool : (l : TyLayer) → is_bool l ≡ true → l ≡ ty.Bool
takes_bool ty.Bool e = refl
takes_bool _ e = never e

takes_text : (l : TyLayer) (size : ℕ) → fits_text size l ≡ true → l ≡ ty.Text
takes_text ty.Text size e = refl
takes_text _ size e = never e

-- the words of these types
number_word : (word : BasicType) (n : ℤ) → is_float word ≡ false → is_number_of (layer_of word) n ≡ true → is_number_of_word word n ≡ true
number_word basics.Bool n none e = e
number_word basics.Float n none e = cc
number_word basics.Double n none e = cc
number_word _ n none e = e

bool_word : (word : BasicType) (at : ℕ) → ty.Bool ≡ layer_of word → check.is_bool (layer.Basic at word) ≡ true
bool_word basics.Bool at e = refl
bool_word _ at e = cc

text_word : (word : BasicType) (at : ℕ) → ty.Text ≡ layer_of word → check.is_text (layer.Basic at word) ≡ true
text_word basics.Text at e = refl
text_word _ at e = cc

both_hold : (a b : Bool) → a ≡ true → b ≡ true → (a && b) ≡ true
both_hold a b x y = ap (λ a. a && b) x ∙ y

-- at most so many bytes, if there is a limit
abbrev pub Short : Option ℕ → Value → Type 0
Short None v = Unit {0}
Short (Some most) v = text_length (out-Value v) ≤ most

module _ (s : Scene) (e d : Declared) (here : Here s e d) where
  number_said : {t : Ty} {said : TypeTree} → TypeSays s.text d s.home t said → Declarable s e d here t → (n : ℤ) → is_number_of (out-Ty t) n ≡ true → fits_number s (out-TypeTree said) n ≡ true
  number_said {t} {said} (basic {at = at} {word = w} is says) may n fits =
      let one = said_word (out-Ty t) w says in
      ap (λ l. fits_number s l n) (ap out-TypeTree is ∙ outs-Basic at w) ∙ number_word w n one.no_float (sym (ap (λ l. is_number_of l n) one.layer) ∙ fits)
  number_said {t} {said} (enum {k = k} {e = x} {name = name} is out get says) may n fits =
      ap (λ l. fits_number s l n) (ap out-TypeTree is ∙ outs-Named name)
      ∙ both_hold (is_enum (meaning_of s name)) (is_signed 31 n) (enum_is_meant s e d here t k x name out get may says) (sym (ap (λ l. is_number_of l n) out) ∙ fits)
  number_said {t} {said} (struct is out get says) may n fits = never (sym (ap (λ l. is_number_of l n) out) ∙ fits)
  number_said {t} {said} (vector is out says) may n fits = never (sym (ap (λ l. is_number_of l n) out) ∙ fits)
  number_said {t} {said} (map is out a b) may n fits = never (sym (ap (λ l. is_number_of l n) out) ∙ fits)

  bool_said : {t : Ty} {said : TypeTree} → TypeSays s.text d s.home t said → out-Ty t ≡ ty.Bool → check.is_bool (out-TypeTree said) ≡ true
  bool_said {t} {said} (basic {at = at} {word = w} is says) of = ap check.is_bool (ap out-TypeTree is ∙ outs-Basic at w) ∙ bool_word w at (sym of ∙ (said_word (out-Ty t) w says).layer)
  bool_said {t} {said} (enum is out get says) of = absurd cc
  bool_said {t} {said} (struct is out get says) of = absurd cc
  bool_said {t} {said} (vector is out says) of = absurd cc
  bool_said {t} {said} (map is out a b) of = absurd cc

  text_said : {t : Ty} {said : TypeTree} → TypeSays s.text d s.home t said → out-Ty t ≡ ty.Text → check.is_text (out-TypeTree said) ≡ true
  text_said {t} {said} (basic {at = at} {word = w} is says) of = ap check.is_text (ap out-TypeTree is ∙ outs-Basic at w) ∙ text_word w at (sym of ∙ (said_word (out-Ty t) w says).layer)
  text_said {t} {said} (enum is out get says) of = absurd cc
  text_said {t} {said} (struct is out get says) of = absurd cc
  text_said {t} {said} (vector is out says) of = absurd cc
  text_said {t} {said} (map is out a b) of = absurd cc

  -- ---- literals

  pub literal_means : (t : Ty) (v : Value) (l : Literal) → LiteralSays s.text v l → literal_value (place_in e s) t l ≡ v
  literal_means t v l (says_true {span = span} is stands out) = ap (literal_value (place_in e s) t) is ∙ sym (bool_is v true out)
  literal_means t v l (says_false {span = span} is stands out) = ap (literal_value (place_in e s) t) is ∙ sym (bool_is v false out)
  literal_means t v l (says_number {span = span} {n = n} is says out) = ap (literal_value (place_in e s) t) is ∙ ap (λ n. values.Num n) says.is ∙ sym (num_is v n out)
  literal_means t v l (says_text {span = span} {bytes = bytes} is stands plain out) = ap (literal_value (place_in e s) t) is ∙ ap (λ b. values.Text b) plain ∙ sym (text_is v bytes out)

  short_text : (most : Option ℕ) (v : Value) (bytes : List ℕ) → out-Value v ≡ value.Text bytes → Short most v → is_short most bytes ≡ true
  short_text None v bytes out few = refl
  short_text (Some most) v bytes out few =
      let few_bytes : length bytes ≤ most = subst (λ (l : ValueLayer). text_length l ≤ most) out few in
      grind (arith, nat_tests)

  pub literal_fits : {t : Ty} {said : TypeTree} → TypeSays s.text d s.home t said → Declarable s e d here t → (most : Option ℕ) (v : Value) (l : Literal) → LiteralSays s.text v l → IsLiteral e t v → Short most v
      → fits_literal s most (out-TypeTree said) l ≡ true
  literal_fits {t} {said} says may most v l (says_true {span = span} is stands out) good few =
      ap (fits_literal s most (out-TypeTree said)) is ∙ bool_said says (takes_bool (out-Ty t) (sym (told_fits_bool v e t true (bool_is v true out)) ∙ good.is_value))
  literal_fits {t} {said} says may most v l (says_false {span = span} is stands out) good few =
      ap (fits_literal s most (out-TypeTree said)) is ∙ bool_said says (takes_bool (out-Ty t) (sym (told_fits_bool v e t false (bool_is v false out)) ∙ good.is_value))
  literal_fits {t} {said} says may most v l (says_number {span = span} {n = n} is number out) good few =
      ap (fits_literal s most (out-TypeTree said)) is ∙ ap (fits_number s (out-TypeTree said)) number.is
      ∙ number_said says may n (sym (told_fits_num v e t n (num_is v n out)) ∙ good.is_value)
  literal_fits {t} {said} says may most v l (says_text {span = span} {bytes = bytes} is stands plain out) good few =
      ap (fits_literal s most (out-TypeTree said)) is ∙ ap (λ b. check.is_text (out-TypeTree said) && is_short most b) plain
      ∙ both_hold (check.is_text (out-TypeTree said)) (is_short most bytes) (text_said says (takes_text (out-Ty t) (length bytes) (sym (told_fits_text v e t bytes (text_is v bytes out)) ∙ good.is_value)))
      (short_text most v bytes out few)

-- ---- defaults that are left out

true_is : (a b : ℤ) → int_eq a b ≡ true → a ≡ b
true_is a b e = (Decides-int_eq a b).0 e

module _ (d e : Declared) where
  same_absent : (l : TyLayer) (v : ValueLayer) → ((k : ℕ) → l ≡ ty.Enum k → items_at d k ≡ items_at e k) → is_absent d l v ≡ is_absent e l v
  same_absent ty.Bool (value.Bool b) same = refl
  same_absent ty.Text (value.Text bytes) same = refl
  same_absent (ty.Enum k) (value.Num n) same = ap (λ is. int_eq n (first_number is)) (same k refl)
  same_absent l (value.Num n) same = refl
  same_absent _ _ same = refl

module _ (e : Declared) where
  -- the absent default is one
  default_absent : (l : TyLayer) → is_absent e l (out-Value (default_layer e l)) ≡ true
  default_absent ty.Bool = ap (is_absent e ty.Bool) (outs-Truth false)
  default_absent ty.Text = ap (is_absent e ty.Text) (outs-Words [])
  default_absent (ty.Enum k) = ap (is_absent e (ty.Enum k)) (outs-Num (first_number (items_at e k))) ∙ (Decides-int_eq (first_number (items_at e k)) (first_number (items_at e k))).1 refl
  default_absent (ty.Struct k) = ap (is_absent e (ty.Struct k)) (outs-Members _)
  default_absent (ty.Vector of) = by_test (is_byte (out-Ty of))
    where
      by_test : (b : Bool) → is_absent e (ty.Vector of) (out-Value (cond b (values.Blob []) (values.List []))) ≡ true
      by_test true = ap (is_absent e (ty.Vector of)) (outs-Blob [])
      by_test false = ap (is_absent e (ty.Vector of)) (outs-List [])
  default_absent (ty.Map key to) = ap (is_absent e (ty.Map key to)) (outs-Pairs [])
  default_absent ty.Byte = ap (is_absent e ty.Byte) (outs-Num (pos 0))
  default_absent ty.Short = ap (is_absent e ty.Short) (outs-Num (pos 0))
  default_absent ty.Int = ap (is_absent e ty.Int) (outs-Num (pos 0))
  default_absent ty.Long = ap (is_absent e ty.Long) (outs-Num (pos 0))
  default_absent ty.UByte = ap (is_absent e ty.UByte) (outs-Num (pos 0))
  default_absent ty.UShort = ap (is_absent e ty.UShort) (outs-Num (pos 0))
  default_absent ty.UInt = ap (is_absent e ty.UInt) (outs-Num (pos 0))

  absent_bool : (l : TyLayer) (b : Bool) → is_bool l ≡ true → is_absent e l (value.Bool b) ≡ true → values.Bool b ≡ default_layer e l
  absent_bool ty.Bool true of is = cc
  absent_bool ty.Bool false of is = refl
  absent_bool _ b of is = never of

  absent_num : (l : TyLayer) (n : ℤ) → is_number_of l n ≡ true → is_absent e l (value.Num n) ≡ true → values.Num n ≡ default_layer e l
  absent_num (ty.Enum k) n of is = ap (λ n. values.Num n) (true_is n (first_number (items_at e k)) is)
  absent_num ty.Bool n of is = never of
  absent_num ty.Text n of is = never of
  absent_num (ty.Struct k) n of is = never of
  absent_num (ty.Vector inner) n of is = never of
  absent_num (ty.Map key to) n of is = never of
  absent_num _ n of is = ap (λ n. values.Num n) (true_is n (pos 0) is)

  absent_text : (l : TyLayer) (bytes : List ℕ) → fits_text (length bytes) l ≡ true → is_absent e l (value.Text bytes) ≡ true → values.Text bytes ≡ default_layer e l
  absent_text ty.Text [] of is = refl
  absent_text ty.Text (b ∷ bytes) of is = absurd (not_none (length bytes) is)
    where
      not_none : (n : ℕ) → (suc n == 0) ≡ true → ⊥
      not_none n e = grind (arith, nat_tests)
  absent_text _ bytes of is = never of

  no_blob : {A : Type 0} (size : ℕ) (l : TyLayer) → is_single l ≡ true → fits_blob size l ≡ true → A
  no_blob size (ty.Vector of) single of_it = never single
  no_blob size _ single of_it = never of_it

  no_list : {A : Type 0} (vs : _) (l : TyLayer) → is_single l ≡ true → fits_list vs e l ≡ true → A
  no_list vs (ty.Vector of) single of_it = never single
  no_list vs _ single of_it = never of_it

  no_map : {A : Type 0} (ps : _) (l : TyLayer) → is_single l ≡ true → fits_map ps e l ≡ true → A
  no_map ps (ty.Map key to) single of_it = never single
  no_map ps _ single of_it = never of_it

  no_struct : {A : Type 0} (vs : _) (l : TyLayer) → is_single l ≡ true → fits_struct vs e l ≡ true → A
  no_struct vs (ty.Struct k) single of_it = never single
  no_struct vs _ single of_it = never of_it

  -- a literal that is left out is the absent default
  absent_literal : (t : Ty) (v : Value) (l : ValueLayer) → out-Value v ≡ l → IsLiteral e t v → is_absent e (out-Ty t) l ≡ true → v ≡ default_of e t
  absent_literal t v (value.Bool b) out good is = bool_is v b out ∙ absent_bool (out-Ty t) b (sym (told_fits_bool v e t b (bool_is v b out)) ∙ good.is_value) is
  absent_literal t v (value.Num n) out good is = num_is v n out ∙ absent_num (out-Ty t) n (sym (told_fits_num v e t n (num_is v n out)) ∙ good.is_value) is
  absent_literal t v (value.Text bytes) out good is = text_is v bytes out ∙ absent_text (out-Ty t) bytes (sym (told_fits_text v e t bytes (text_is v bytes out)) ∙ good.is_value) is
  absent_literal t v (value.Blob bytes) out good is = no_blob (length bytes) (out-Ty t) good.single (sym (told_fits_blob v e t bytes (value_is v (value.Blob bytes) out ∙ rolls-Blob bytes)) ∙ good.is_value)
  absent_literal t v (value.List vs) out good is = no_list (mapped told vs) (out-Ty t) good.single (sym (told_fits_list v e t vs (value_is v (value.List vs) out ∙ rolls-List vs)) ∙ good.is_value)
  absent_literal t v (value.Map ps) out good is = no_map (mapped told_entry ps) (out-Ty t) good.single (sym (told_fits_map v e t ps (value_is v (value.Map ps) out ∙ rolls-Map ps)) ∙ good.is_value)
  absent_literal t v (value.Struct vs) out good is = no_struct (mapped told vs) (out-Ty t) good.single (sym (told_fits_struct v e t vs (value_is v (value.Struct vs) out ∙ rolls-Struct vs)) ∙ good.is_value)

  absent_is : (t : Ty) (v : Value) → IsDefault e t v → is_absent e (out-Ty t) (out-Value v) ≡ true → v ≡ default_of e t
  absent_is t v (absent is) left_out = is
  absent_is t v (literal good few) left_out = absent_literal t v (out-Value v) refl good left_out

  -- one that is written is a literal
  pub record Written (t : Ty) (v : Value) : Type 0 where
    pub good : IsLiteral e t v
    pub few : text_length (out-Value v) ≤ 255

  written_literal : (t : Ty) (v : Value) → IsDefault e t v → is_absent e (out-Ty t) (out-Value v) ≡ false → Written t v
  written_literal t v (absent is) written = never (sym written ∙ ap (λ v. is_absent e (out-Ty t) (out-Value v)) is ∙ default_absent (out-Ty t))
  written_literal t v (literal good few) written = record { good = good; few = few }

module _ (s : Scene) (e d : Declared) (here : Here s e d) where
  -- what is written for a default
  pub record GoodDefault (t : Ty) (said : TypeTree) (v : Value) (written : Option Literal) : Type 0 where
    pub unfaulted : bad_written s (out-TypeTree said) written ≡ []
    pub means : default_value (place_in e s) t written ≡ v

  pub default_said : {t : Ty} {said : TypeTree} → TypeSays s.text d s.home t said → Declarable s e d here t → (v : Value) (written : Option Literal) → IsDefault e t v
      → DefaultSays s.text v (is_absent d (out-Ty t) (out-Value v)) written → GoodDefault t said v written
  default_said {t} {said} says may v written good said_default = by_absent (is_absent d (out-Ty t) (out-Value v)) refl said_default
    where
      same : is_absent d (out-Ty t) (out-Value v) ≡ is_absent e (out-Ty t) (out-Value v)
      same = same_absent d e (out-Ty t) (out-Value v) (λ k is. ap enum_items (here.enums k (enum_within (length e.enums) (length e.structs) may k is)))

      by_absent : (b : Bool) → is_absent d (out-Ty t) (out-Value v) ≡ b → DefaultSays s.text v b written → GoodDefault t said v written
      by_absent true left_out none = record {
        unfaulted = ap (bad_written s (out-TypeTree said)) none;
        means = ap (default_value (place_in e s) t) none ∙ sym (absent_is e t v good (sym same ∙ left_out));
      }
      by_absent false left_in some =
          let w = written_literal e t v good (sym same ∙ left_in) in
          record {
            unfaulted = ap (bad_written s (out-TypeTree said)) some.1
                ∙ no_fault_unless (fits_literal s (Some 255) (out-TypeTree said) some.0) s.file (literal_start some.0) BadDefault (literal_fits s e d here says may (Some 255) v some.0 some.2 w.good w.few);
            means = ap (default_value (place_in e s) t) some.1 ∙ literal_means s e d here t v some.0 some.2;
          }
