-- Some text of every type of a schema.
use Rattle.std.proofs.Common.{◌≡◌, ℕ, zero, suc, pos, Bool, true, false, List, [], ◌∷◌, ◌++◌, codes, refl, sym, ap, ◌∙◌, subst, arith, append_assoc}
use Rattle.std.specs.Char.{is_ascii_alphabetic}
use Rattle.idl_lex.specs.Bytes.{begins}
use Rattle.tars_model.specs.Declarations.{Declared, members_at}
use Rattle.tars_model.specs.Schemas.{IsSchema}
use Rattle.tars_model.specs.Types.{TyLayer}
use Rattle.tars_model.specs.Values.{is_byte}
use Rattle.tars_model.specs.declared.member.Member.{Member}
use Rattle.tars_model.specs.declared.ty.Ty.{Ty, out-Ty}
use Rattle.tars_model.specs.declared.ty.Ty.TheOpen as ty
use Rattle.tars_model.specs.declared.value.Value.{Value}
use Rattle.tars_model.specs.declared.value.Value.TheVariants as values
use Rattle.value_text.specs.Answers.{IsEnd}
use Rattle.value_text.specs.Spelling.{past_gap, FORM, has_numbers, SpellsBy, MembersBy}
use Rattle.value_text.specs.Spelling as spelling
use Rattle.value_text.proofs.Induction.{AllOf}
use Rattle.value_text.proofs.Opening.{value_opens, no_gap, letter_no_gap}
use Rattle.value_text.proofs.PrintedTexts.{no_digit}
use Rattle.value_text.proofs.SchemaNames.{HasLetter, Named, schema_names}
use Rattle.value_text.proofs.Moving.Bounds.{IsBelow, AreBelow, widen, schema_below}
use Rattle.value_text.proofs.Moving.Moves.{Others}

-- a text of the type, before whatever ends it
pub record Filled (d : Declared) (t : Ty) : Type 0 where
  pub text : List ℕ
  pub value : Value
  pub spells : (tail : List ℕ) → IsEnd tail → SpellsBy FORM d t value (text ++ tail) tail

-- a text of members
pub record MembersFilled (d : Declared) (ms : List Member) : Type 0 where
  pub text : List ℕ
  pub vs : List Value
  pub opens : (tail : List ℕ) → past_gap (text ++ tail) ≡ text ++ tail
  pub spells : (tail : List ℕ) → MembersBy FORM d ms vs (text ++ tail) tail

-- the same after a member
pub record OthersFilled (d : Declared) (ms : List Member) : Type 0 where
  pub text : List ℕ
  pub vs : List Value
  pub ends : (tail : List ℕ) → IsEnd (text ++ tail)
  pub spells : (tail : List ℕ) → Others d ms vs (text ++ tail) tail

module _ {d : Declared} where
  after_comma : {m : Member} {ms : List Member} → MembersFilled d (m ∷ ms) → OthersFilled d (m ∷ ms)
  after_comma f = record {
    text = 44 ∷ f.text;
    vs = f.vs;
    ends = λ tail. refl;
    spells = λ tail. (f.text ++ tail, (f.text ++ tail, refl, sym (f.opens tail)), f.spells tail);
  }

  closed : MembersFilled d []
  closed = record { text = 41 ∷ []; vs = []; opens = λ tail. refl; spells = λ tail. spelling.no_members refl }

  others_closed : OthersFilled d []
  others_closed = record { text = 41 ∷ []; vs = []; ends = λ tail. refl; spells = λ tail. (41 ∷ tail, refl, spelling.no_members refl) }

  one_member : (m : Member) (ms : List Member) → HasLetter m → Filled d m.ty → OthersFilled d ms → MembersFilled d (m ∷ ms)
  one_member m ms letter f others =
      let text = m.name ++ 61 ∷ (f.text ++ others.text) in
      let whole : (tail : List ℕ) → text ++ tail ≡ m.name ++ 61 ∷ (f.text ++ (others.text ++ tail)) = λ tail.
      append_assoc m.name (61 ∷ (f.text ++ others.text)) tail ∙ ap (λ (l : List ℕ). m.name ++ 61 ∷ l) (append_assoc f.text others.text tail) in
      record {
        text = text;
        vs = f.value ∷ others.vs;
        opens = λ tail. subst (λ (l : List ℕ). past_gap l ≡ l) (sym (whole tail)) (name_opens m.name letter (61 ∷ (f.text ++ (others.text ++ tail))));
        spells = λ tail.
            let next = others.text ++ tail in
            let value = f.spells next (others.ends tail) in
            let o = others.spells tail in
            spelling.more_members (61 ∷ (f.text ++ next)) (f.text ++ next) next o.0 (whole tail) refl
            (subst (λ (l : List ℕ). SpellsBy FORM d m.ty f.value l next) (sym (no_gap (f.text ++ next) (value_opens value))) value) o.1 o.2;
      }
    where
      name_opens : (name : List ℕ) → begins is_ascii_alphabetic name ≡ true → (rest : List ℕ) → past_gap (name ++ rest) ≡ name ++ rest
      name_opens [] letter rest = absurd cc
      name_opens (b ∷ name) letter rest = letter_no_gap (b ∷ (name ++ rest)) letter

  module _ (bound : ℕ) (fill : (t : Ty) → IsBelow bound t → Filled d t) where
    pub others_filled : (ms : List Member) → AllOf HasLetter ms → AreBelow bound ms → OthersFilled d ms
    others_filled [] letters below = others_closed
    others_filled (m ∷ ms) letters below = after_comma (one_member m ms letters.0 (fill m.ty below.0) (others_filled ms letters.1 below.1))

    pub members_filled : (ms : List Member) → AllOf HasLetter ms → AreBelow bound ms → MembersFilled d ms
    members_filled [] letters below = closed
    members_filled (m ∷ ms) letters below = one_member m ms letters.0 (fill m.ty below.0) (others_filled ms letters.1 below.1)

-- ---- each type

module _ (d : Declared) (t : Ty) where
  true_filled : out-Ty t ≡ ty.Bool → Filled d t
  true_filled is = record { text = codes "true"; value = values.Bool true; spells = λ tail ends. spelling.truth true is refl refl }

  nought_filled : has_numbers (out-Ty t) ≡ true → Filled d t
  nought_filled has = record { text = codes "0"; value = values.Num (pos 0); spells = λ tail ends. spelling.number (pos 0) has refl (spelling.digits_of (spelling.natural 0 refl (spelling.nought refl refl))) }

  text_filled : out-Ty t ≡ ty.Text → Filled d t
  text_filled is = record { text = 34 ∷ 34 ∷ []; value = values.Text []; spells = λ tail ends. spelling.text [] (34 ∷ tail) is refl refl (spelling.ends_text refl) }

  vector_filled : (of : Ty) → out-Ty t ≡ ty.Vector of → Filled d t
  vector_filled of is = by_elements (is_byte (out-Ty of)) refl
    where
      by_elements : (b : Bool) → is_byte (out-Ty of) ≡ b → Filled d t
      by_elements true byte = record { text = 35 ∷ []; value = values.Blob []; spells = λ tail ends. spelling.blob of [] tail is byte refl refl (spelling.ends_blob (no_digit tail ends) refl) }
      by_elements false other = record { text = 91 ∷ 93 ∷ []; value = values.List []; spells = λ tail ends. spelling.no_elements of (93 ∷ tail) is other refl refl refl }

  map_filled : (key to : Ty) → out-Ty t ≡ ty.Map key to → Filled d t
  map_filled key to is = record { text = 123 ∷ 125 ∷ []; value = values.Map []; spells = λ tail ends. spelling.no_entries key to (125 ∷ tail) is refl refl refl }

  struct_filled : (k : ℕ) → out-Ty t ≡ ty.Struct k → MembersFilled d (members_at d k) → Filled d t
  struct_filled k is f = record {
    text = 40 ∷ f.text;
    value = values.Struct f.vs;
    spells = λ tail ends. spelling.members k f.vs (f.text ++ tail) is refl refl (subst (λ (l : List ℕ). MembersBy FORM d (members_at d k) f.vs l tail) (sym (f.opens tail)) (f.spells tail));
  }

  by_layer : ((k : ℕ) → out-Ty t ≡ ty.Struct k → MembersFilled d (members_at d k)) → (l : TyLayer) → out-Ty t ≡ l → Filled d t
  by_layer deeper ty.Bool is = true_filled is
  by_layer deeper ty.Byte is = nought_filled (ap has_numbers is)
  by_layer deeper ty.Short is = nought_filled (ap has_numbers is)
  by_layer deeper ty.Int is = nought_filled (ap has_numbers is)
  by_layer deeper ty.Long is = nought_filled (ap has_numbers is)
  by_layer deeper ty.UByte is = nought_filled (ap has_numbers is)
  by_layer deeper ty.UShort is = nought_filled (ap has_numbers is)
  by_layer deeper ty.UInt is = nought_filled (ap has_numbers is)
  by_layer deeper ty.Text is = text_filled is
  by_layer deeper (ty.Enum k) is = nought_filled (ap has_numbers is)
  by_layer deeper (ty.Struct k) is = struct_filled k is (deeper k is)
  by_layer deeper (ty.Vector of) is = vector_filled of is
  by_layer deeper (ty.Map key to) is = map_filled key to is

module _ (d : Declared) (named : Named d) (below : (k : ℕ) → AreBelow k (members_at d k)) where
  filled : (bound : ℕ) (t : Ty) → IsBelow bound t → Filled d t
  filled zero t all = by_layer d t (λ k is. let none = all k is in absurd (omega arith)) (out-Ty t) refl
  filled (suc bound) t all =
      by_layer d t (λ k is. let less = all k is in members_filled bound (filled bound) (members_at d k) (named k) (widen k bound (members_at d k) (omega arith) (below k))) (out-Ty t) refl

  -- no bound
  each_filled : (t : Ty) → Filled d t
  each_filled t = by_layer d t (λ k is. members_filled k (filled k) (members_at d k) (named k) (below k)) (out-Ty t) refl

pub fills : (d : Declared) → IsSchema d → (t : Ty) → Filled d t
fills d schema t = each_filled d (schema_names d schema) (schema_below d schema) t
