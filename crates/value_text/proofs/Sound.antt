-- What is read of a value's bytes is spelled by them.
use Rattle.std.proofs.Common.{◌≡◌, ◌+◌, ℕ, zero, suc, ℤ, Bool, true, false, ◌==◌, cond, Option, Some, None, List, [], ◌∷◌, ◌++◌, length, take, drop, Ok, refl, sym, ap, ◌∙◌, subst}
use Rattle.std.specs.Char.{is_ascii_alphabetic}
use Rattle.canonical_text.specs.Canonical.{truth_word}
use Rattle.facts.specs.ResultSteps.{◌>>=◌}
use Rattle.facts.proofs.ResultLaws.{bind_gave}
use Rattle.idl_lex.specs.Bytes.{begins, is_word_byte}
use Rattle.idl_lex.proofs.Lexing.Words.RunLaws.{take_is_run, drop_is_after}
use Rattle.tars_model.specs.Declarations.{Declared, members_at, items_at}
use Rattle.tars_model.specs.Types.{TyLayer}
use Rattle.tars_model.specs.Values.{is_byte, is_number_of}
use Rattle.tars_model.specs.declared.enum_desc.Item.{Item}
use Rattle.tars_model.specs.declared.member.Member.{Member}
use Rattle.tars_model.specs.declared.ty.Ty.{Ty, out-Ty}
use Rattle.tars_model.specs.declared.ty.Ty.TheOpen as ty
use Rattle.tars_model.specs.declared.value.Value.{Value}
use Rattle.tars_model.specs.declared.value.Value.TheVariants as values
use Rattle.value_text.specs.ReadSteps.{Read, out_of_range, word_at, byte_at, sign_at, turn_at, truth_at, integer_at, word_len, named, name_at, said_at, number_at, units_at, text_at, blob_at}
use Rattle.value_text.specs.ValueSteps.{element_then, elements_at, list_inside, list_at, field_at, comma_at, fields_at, struct_at}
use Rattle.value_text.specs.Spelling.{past_gap, number_named, NameSpells, SaysNumber, Comma, SpellsBy, ElementsBy, MembersBy, ALL}
use Rattle.value_text.specs.Spelling as spelling
use Rattle.value_text.specs.declared.cursor.Form.TheVariants as forms
use Rattle.value_text.proofs.Signs.{okay_is, read_ok, gives, byte_stands, sign_stands, word_stands, begins_with, turn_stands}
use Rattle.value_text.proofs.NumberLaws.{number_stands}
use Rattle.value_text.proofs.TextLaws.{text_stands, blob_stands}

-- a reader gives values that are spelled
abbrev pub Sound : Declared → Ty → (List ℕ → Read Value) → Type 0
Sound d t f = (bytes : List ℕ) (v : Value) (rest : List ℕ) → f bytes ≡ Ok (v, rest) → SpellsBy ALL d t v bytes rest

-- ---- truth values

module _ (d : Declared) (t : Ty) (is : out-Ty t ≡ ty.Bool) where
  word_sound : (b : Bool) (bytes : List ℕ) (v : Value) (rest : List ℕ) → (word_at (truth_word b) bytes >>= λ r. read_ok (values.Bool b) r) ≡ Ok (v, rest) → SpellsBy ALL d t v bytes rest
  word_sound b bytes v rest e =
      let word = bind_gave (word_at (truth_word b) bytes) (λ r. read_ok (values.Bool b) r) (v, rest) e in
      let same = gives (values.Bool b) v word.0 rest word.2 in
      spelling.truth b is (sym same.0) (word_stands (truth_word b) bytes word.0 word.1 ∙ ap (λ (r : List ℕ). truth_word b ++ r) same.1)

  pub truth_sound : Sound d t truth_at
  unfolding truth_at
  truth_sound bytes v rest e = by_test (begins (λ b. b == 116) bytes) e
    where
      by_test : (b : Bool) → cond b (word_at (truth_word true) bytes >>= λ r. read_ok (values.Bool true) r) (word_at (truth_word false) bytes >>= λ r. read_ok (values.Bool false) r) ≡ Ok (v, rest) → SpellsBy ALL d t v bytes rest
      by_test true e = word_sound true bytes v rest e
      by_test false e = word_sound false bytes v rest e

-- ---- numbers

name_sound : (items : List Item) (n : ℤ) (bytes rest : List ℕ) → begins is_ascii_alphabetic bytes ≡ true → name_at items bytes ≡ Ok (n, rest) → NameSpells items n bytes rest
unfolding name_at
name_sound items n bytes rest letter e = by_found (number_named items (take (word_len bytes) bytes)) refl e
  where
    by_found : (o : Option ℤ) → number_named items (take (word_len bytes) bytes) ≡ o → named o items (word_len bytes) bytes ≡ Ok (n, rest) → NameSpells items n bytes rest
    by_found (Some m) found e =
        let same = gives m n (drop (word_len bytes) bytes) rest e in
        record {
          letter = letter;
          named = ap (number_named items) (sym (take_is_run is_word_byte bytes)) ∙ found ∙ ap (λ (z : ℤ). some z) same.0;
          after = sym same.1 ∙ drop_is_after is_word_byte bytes;
        }
      where
        some : ℤ → Option ℤ
        some z = Some z
    by_found None found e = absurd cc

pub said_sound : (d : Declared) (t : TyLayer) (n : ℤ) (bytes rest : List ℕ) → said_at d t bytes ≡ Ok (n, rest) → SaysNumber d t n bytes rest
said_sound d (ty.Enum k) n bytes rest e = by_test (begins is_ascii_alphabetic bytes) refl e
  where
    by_test : (t : Bool) → begins is_ascii_alphabetic bytes ≡ t → cond t (name_at (items_at d k) bytes) (integer_at bytes) ≡ Ok (n, rest) → SaysNumber d (ty.Enum k) n bytes rest
    by_test true letter e = spelling.name k refl (name_sound (items_at d k) n bytes rest letter e)
    by_test false letter e = spelling.digits_of (number_stands n bytes rest e)
said_sound d _ n bytes rest e = spelling.digits_of (number_stands n bytes rest e)

pub number_sound : (d : Declared) (t : Ty) → Sound d t (number_at d (out-Ty t))
unfolding number_at
number_sound d t bytes v rest e =
    let said = bind_gave (said_at d (out-Ty t) bytes) (λ n. cond (is_number_of (out-Ty t) n.0) (read_ok (values.Num n.0) n.1) (out_of_range bytes)) (v, rest) e in
    by_test said.0.0 said.0.1 (said_sound d (out-Ty t) said.0.0 bytes said.0.1 said.1) (is_number_of (out-Ty t) said.0.0) refl said.2
  where
    by_test : (n : ℤ) (after : List ℕ) → SaysNumber d (out-Ty t) n bytes after → (b : Bool) → is_number_of (out-Ty t) n ≡ b → cond b (read_ok (values.Num n) after) (out_of_range bytes) ≡ Ok (v, rest) → SpellsBy ALL d t v bytes rest
    by_test n after says true fits e =
        let same = gives (values.Num n) v after rest e in
        spelling.number n fits (sym same.0) (subst (λ (r : List ℕ). SaysNumber d (out-Ty t) n bytes r) same.1 says)
    by_test n after says false fits e = absurd cc

-- ---- texts and blobs

pub text_sound : (d : Declared) (t : Ty) → out-Ty t ≡ ty.Text → Sound d t text_at
unfolding text_at
text_sound d t is bytes v rest e =
    let quote = bind_gave (byte_at 34 bytes) (λ inside. units_at forms.Quoted (length inside + 1) inside >>= λ s. read_ok (values.Text s.0) s.1) (v, rest) e in
    let text = bind_gave (units_at forms.Quoted (length quote.0 + 1) quote.0) (λ s. read_ok (values.Text s.0) s.1) (v, rest) quote.2 in
    let same = gives (values.Text text.0.0) v text.0.1 rest text.2 in
    spelling.text text.0.0 quote.0 is (sym same.0) (byte_stands 34 bytes quote.0 quote.1)
    (text_stands (length quote.0 + 1) text.0.0 quote.0 rest (text.1 ∙ ap (read_ok text.0.0) same.1))

pub blob_sound : (d : Declared) (t of : Ty) → out-Ty t ≡ ty.Vector of → is_byte (out-Ty of) ≡ true → Sound d t blob_at
unfolding blob_at
blob_sound d t of is byte bytes v rest e =
    let mark = bind_gave (byte_at 35 bytes) (λ inside. units_at forms.Hexadecimal (length inside + 1) inside >>= λ s. read_ok (values.Blob s.0) s.1) (v, rest) e in
    let blob = bind_gave (units_at forms.Hexadecimal (length mark.0 + 1) mark.0) (λ s. read_ok (values.Blob s.0) s.1) (v, rest) mark.2 in
    let same = gives (values.Blob blob.0.0) v blob.0.1 rest blob.2 in
    spelling.blob of blob.0.0 mark.0 is byte (sym same.0) (byte_stands 35 bytes mark.0 mark.1)
    (blob_stands (length mark.0 + 1) blob.0.0 mark.0 rest (blob.1 ∙ ap (read_ok blob.0.0) same.1))

-- ---- lists

module _ (d : Declared) (of : Ty) (f : List ℕ → Read Value) (sound : Sound d of f) where
  elements_sound : (count : ℕ) (bytes : List ℕ) (vs : List Value) (rest : List ℕ) → elements_at f count bytes ≡ Ok (vs, rest) → ElementsBy ALL d of vs bytes rest
  unfolding elements_at
  elements_sound zero bytes vs rest e = absurd cc
  elements_sound (suc count) bytes vs rest e =
      let first = bind_gave (f bytes) (λ v. turn_at 93 v.1 >>= λ turn. element_then v.0 turn.0 turn.1 (elements_at f count turn.1)) (vs, rest) e in
      let turn = bind_gave (turn_at 93 first.0.1) (λ turn. element_then first.0.0 turn.0 turn.1 (elements_at f count turn.1)) (vs, rest) first.2 in
      by_turn first.0.0 first.0.1 (sound bytes first.0.0 first.0.1 first.1) turn.0.0 turn.0.1 turn.1 (λ b us r is. elements_sound count b us r is) turn.2
    where
      by_turn : (v : Value) (next : List ℕ) → SpellsBy ALL d of v bytes next → (last : Bool) (after : List ℕ) → turn_at 93 next ≡ Ok (last, after)
          → ((b : List ℕ) (us : List Value) (r : List ℕ) → elements_at f count b ≡ Ok (us, r) → ElementsBy ALL d of us b r)
          → element_then v last after (elements_at f count after) ≡ Ok (vs, rest) → ElementsBy ALL d of vs bytes rest
      by_turn v next is true after turn deeper e =
          let same = gives (v ∷ []) vs after rest e in
          subst (λ (l : List Value). ElementsBy ALL d of l bytes rest) same.0 (spelling.last_element next is (turn_stands 93 next after true turn ∙ ap (λ (r : List ℕ). 93 ∷ r) same.1))
      by_turn v next is false after turn deeper e =
          let others = bind_gave (elements_at f count after) (λ o. read_ok (v ∷ o.0) o.1) (vs, rest) e in
          let same = gives (v ∷ others.0.0) vs others.0.1 rest others.2 in
          let comma = turn_stands 93 next after false turn in
          subst (λ (l : List Value). ElementsBy ALL d of l bytes rest) same.0
          (spelling.more_elements next comma.0 is comma.1
          (subst (λ (b : List ℕ). ElementsBy ALL d of others.0.0 b rest) (sym comma.2) (deeper after others.0.0 rest (others.1 ∙ ap (read_ok others.0.0) same.1))))

  pub list_sound : (t : Ty) → out-Ty t ≡ ty.Vector of → is_byte (out-Ty of) ≡ false → Sound d t (list_at f)
  unfolding list_at
  list_sound t is other bytes v rest e =
      let open_sign = bind_gave (sign_at 91 bytes) (list_inside f) (v, rest) e in
      let sign = sign_stands 91 bytes open_sign.0 open_sign.1 in
      by_test open_sign.0 sign.0 sign.1 sign.2 (begins (λ b. b == 93) open_sign.0) (begins_with 93 open_sign.0) open_sign.2
    where
      by_test : (start inside : List ℕ) → bytes ≡ 91 ∷ inside → past_gap inside ≡ start → (t' : Bool) → (t' ≡ true → start ≡ 93 ∷ drop 1 start)
          → cond t' (read_ok (values.List []) (drop 1 start)) (elements_at f (length start) start >>= λ vs. read_ok (values.List vs.0) vs.1) ≡ Ok (v, rest) → SpellsBy ALL d t v bytes rest
      by_test start inside text gap true closes e =
          let same = gives (values.List []) v (drop 1 start) rest e in
          spelling.no_elements of inside is other (sym same.0) text (gap ∙ closes refl ∙ ap (λ (r : List ℕ). 93 ∷ r) same.1)
      by_test start inside text gap false closes e =
          let vs = bind_gave (elements_at f (length start) start) (λ vs. read_ok (values.List vs.0) vs.1) (v, rest) e in
          let same = gives (values.List vs.0.0) v vs.0.1 rest vs.2 in
          spelling.elements of vs.0.0 inside is other (sym same.0) text
          (subst (λ (b : List ℕ). ElementsBy ALL d of vs.0.0 b rest) (sym gap) (elements_sound (length start) start vs.0.0 rest (vs.1 ∙ ap (read_ok vs.0.0) same.1)))

-- ---- structs

pub comma_stands : (ms : List Member) (bytes rest : List ℕ) → comma_at ms bytes ≡ Ok rest → Comma ms bytes rest
comma_stands [] bytes rest e = sym (okay_is bytes rest e)
comma_stands (m ∷ ms) bytes rest e = let sign = sign_stands 44 bytes rest e in (sign.0, sign.1, sym sign.2)

-- a member's name and its value
pub record FieldStands (d : Declared) (m : Member) (v : Value) (bytes rest : List ℕ) : Type 0 where
  pub equals : List ℕ
  pub start : List ℕ
  pub name : bytes ≡ m.name ++ equals
  pub sign : past_gap equals ≡ 61 ∷ start
  pub value : SpellsBy ALL d m.ty v (past_gap start) rest

module _ (d : Declared) (f : Ty → List ℕ → Read Value) (sound : (t : Ty) → Sound d t (f t)) where
  pub field_sound : (m : Member) (bytes : List ℕ) (v : Value) (rest : List ℕ) → field_at f m bytes ≡ Ok (v, rest) → FieldStands d m v bytes rest
  unfolding field_at
  field_sound m bytes v rest e =
      let name = bind_gave (word_at m.name bytes) (λ equals. sign_at 61 (past_gap equals) >>= f m.ty) (v, rest) e in
      let start = bind_gave (sign_at 61 (past_gap name.0)) (f m.ty) (v, rest) name.2 in
      let sign = sign_stands 61 (past_gap name.0) start.0 start.1 in
      record {
        equals = name.0;
        start = sign.0;
        name = word_stands m.name bytes name.0 name.1;
        sign = sign.1;
        value = subst (λ (b : List ℕ). SpellsBy ALL d m.ty v b rest) (sym sign.2) (sound m.ty start.0 v rest start.2);
      }

  members_sound : (ms : List Member) (bytes : List ℕ) (vs : List Value) (rest : List ℕ) → fields_at f ms bytes ≡ Ok (vs, rest) → MembersBy ALL d ms vs bytes rest
  unfolding fields_at
  members_sound [] bytes vs rest e =
      let end = bind_gave (byte_at 41 bytes) (λ r. read_ok [] r) (vs, rest) e in
      let same = gives [] vs end.0 rest end.2 in
      subst (λ (l : List Value). MembersBy ALL d [] l bytes rest) same.0 (spelling.no_members (byte_stands 41 bytes end.0 end.1 ∙ ap (λ (r : List ℕ). 41 ∷ r) same.1))
  members_sound (m ∷ ms) bytes vs rest e =
      let one = bind_gave (field_at f m bytes) (λ v. comma_at ms (past_gap v.1) >>= λ next. fields_at f ms next >>= λ o. read_ok (v.0 ∷ o.0) o.1) (vs, rest) e in
      let comma = bind_gave (comma_at ms (past_gap one.0.1)) (λ next. fields_at f ms next >>= λ o. read_ok (one.0.0 ∷ o.0) o.1) (vs, rest) one.2 in
      let others = bind_gave (fields_at f ms comma.0) (λ o. read_ok (one.0.0 ∷ o.0) o.1) (vs, rest) comma.2 in
      let same = gives (one.0.0 ∷ others.0.0) vs others.0.1 rest others.2 in
      let field = field_sound m bytes one.0.0 one.0.1 one.1 in
      subst (λ (l : List Value). MembersBy ALL d (m ∷ ms) l bytes rest) same.0
      (spelling.more_members field.equals field.start one.0.1 comma.0 field.name field.sign field.value
      (comma_stands ms (past_gap one.0.1) comma.0 comma.1)
      (members_sound ms comma.0 others.0.0 rest (others.1 ∙ ap (read_ok others.0.0) same.1)))

  pub struct_sound : (t : Ty) (k : ℕ) → out-Ty t ≡ ty.Struct k → Sound d t (struct_at f (members_at d k))
  unfolding struct_at
  struct_sound t k is bytes v rest e =
      let start = bind_gave (sign_at 40 bytes) (λ inside. fields_at f (members_at d k) inside >>= λ vs. read_ok (values.Struct vs.0) vs.1) (v, rest) e in
      let vs = bind_gave (fields_at f (members_at d k) start.0) (λ vs. read_ok (values.Struct vs.0) vs.1) (v, rest) start.2 in
      let same = gives (values.Struct vs.0.0) v vs.0.1 rest vs.2 in
      let sign = sign_stands 40 bytes start.0 start.1 in
      spelling.members k vs.0.0 sign.0 is (sym same.0) sign.1
      (subst (λ (b : List ℕ). MembersBy ALL d (members_at d k) vs.0.0 b rest) (sym sign.2) (members_sound (members_at d k) start.0 vs.0.0 rest (vs.1 ∙ ap (read_ok vs.0.0) same.1)))
