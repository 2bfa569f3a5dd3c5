-- The text of a value under a type has one end.
use Rattle.std.proofs.Common.{◌≡◌, ◌+◌, inl, inr, ℕ, ℤ, ◌==◌, Bool, true, false, List, [], ◌∷◌, ◌++◌, length, drop, arith, refl, sym, ap, ◌∙◌, subst}
use Rattle.std.proofs.lemmas.List.{append_cancel_left}
use Rattle.std.specs.Char.{is_ascii_alphabetic}
use Rattle.canonical_text.specs.Canonical.{truth_word}
use Rattle.idl_lex.specs.Bytes.{begins}
use Rattle.tars_model.specs.Declarations.{Declared}
use Rattle.tars_model.specs.Types.{TyLayer}
use Rattle.tars_model.specs.declared.member.Member.{Member}
use Rattle.tars_model.specs.declared.ty.Ty.{Ty, out-Ty}
use Rattle.tars_model.specs.declared.ty.Ty.TheOpen as ty
use Rattle.tars_model.specs.declared.value.Pair.{Pair}
use Rattle.tars_model.specs.declared.value.Value.{Value}
use Rattle.value_text.specs.ReadSteps.{units_at}
use Rattle.value_text.specs.Spelling.{past_gap, FORM, NumberSpells, SaysNumber, TextSpells, BlobSpells, Comma, SpellsBy, ElementsBy, EntriesBy, EntryBy, MembersBy}
use Rattle.value_text.specs.Spelling as spelling
use Rattle.value_text.specs.declared.cursor.Form.TheVariants as forms
use Rattle.value_text.proofs.NumberReads.{word_is_read}
use Rattle.value_text.proofs.Opening.{is_closing, elements_open, entries_open, number_begins, digit_no_letter}
use Rattle.value_text.proofs.Signs.{gives, same_byte, true_is_not_false}
use Rattle.value_text.proofs.TextLaws.{text_is_read, blob_is_read}
use Rattle.value_text.proofs.Moving.Shapes.{ListInside, MapInside, shape, shape_at, is_number_shape, blob_shape, list_shape}

-- after one sign, the same stands
after_sign : (c : ℕ) (bytes r s : List ℕ) → bytes ≡ c ∷ r → bytes ≡ c ∷ s → r ≡ s
after_sign c bytes r s one two = ap (drop 1) (sym one ∙ two)

after_word : (word bytes r s : List ℕ) → bytes ≡ word ++ r → bytes ≡ word ++ s → r ≡ s
after_word word bytes r s one two = append_cancel_left word r s (sym one ∙ two)

truth_rest : (b c : Bool) (bytes r s : List ℕ) → bytes ≡ truth_word b ++ r → bytes ≡ truth_word c ++ s → r ≡ s
truth_rest true true bytes r s one two = after_word (truth_word true) bytes r s one two
truth_rest false false bytes r s one two = after_word (truth_word false) bytes r s one two
truth_rest true false bytes r s one two = absurd (true_is_not_false (sym (ap (begins (λ b. b == 116)) one) ∙ ap (begins (λ b. b == 116)) two))
truth_rest false true bytes r s one two = absurd (true_is_not_false (sym (ap (begins (λ b. b == 116)) two) ∙ ap (begins (λ b. b == 116)) one))

digits_rest : (n m : ℤ) (bytes r s : List ℕ) → NumberSpells n bytes r → NumberSpells m bytes s → r ≡ s
digits_rest n m bytes r s one two =
    let a = word_is_read n bytes r one in
    let b = word_is_read m bytes s two in
    (gives a.word b.word r s (sym a.read ∙ b.read)).1

no_name : (n : ℤ) (bytes rest : List ℕ) → NumberSpells n bytes rest → begins is_ascii_alphabetic bytes ≡ true → ⊥
no_name n bytes rest is letter = true_is_not_false (sym letter ∙ number_begins is_ascii_alphabetic digit_no_letter refl n bytes rest is)

number_rest : (d : Declared) (l : TyLayer) (n m : ℤ) (bytes r s : List ℕ) → SaysNumber d l n bytes r → SaysNumber d l m bytes s → r ≡ s
number_rest d l n m bytes r s (spelling.digits_of one) (spelling.digits_of two) = digits_rest n m bytes r s one two
number_rest d l n m bytes r s (spelling.digits_of one) (spelling.name k is two) = absurd (no_name n bytes r one two.letter)
number_rest d l n m bytes r s (spelling.name k is one) (spelling.digits_of two) = absurd (no_name m bytes s two one.letter)
number_rest d l n m bytes r s (spelling.name k is one) (spelling.name j other two) = one.after ∙ sym two.after

text_rest : {a b bytes other r s : List ℕ} → TextSpells a bytes r → TextSpells b other s → bytes ≡ other → r ≡ s
text_rest {a = a} {b = b} {bytes = bytes} {other = other} {r = r} {s = s} one two same =
    let len = ap length same in
    (gives a b r s (sym (text_is_read (length bytes + 1) one (omega arith)) ∙ ap (units_at forms.Quoted (length bytes + 1)) same ∙ text_is_read (length bytes + 1) two (omega arith))).1

blob_rest : {a b bytes other r s : List ℕ} → BlobSpells a bytes r → BlobSpells b other s → bytes ≡ other → r ≡ s
blob_rest {a = a} {b = b} {bytes = bytes} {other = other} {r = r} {s = s} one two same =
    let len = ap length same in
    (gives a b r s (sym (blob_is_read (length bytes + 1) one (omega arith)) ∙ ap (units_at forms.Hexadecimal (length bytes + 1)) same ∙ blob_is_read (length bytes + 1) two (omega arith))).1

-- ---- what closes is not what goes on

closes_or_goes_on : (close : ℕ) (bytes r inside : List ℕ) → (44 == close) ≡ false → bytes ≡ close ∷ r → bytes ≡ 44 ∷ inside → ⊥
closes_or_goes_on close bytes r inside other one two =
    true_is_not_false (sym (same_byte close) ∙ sym (ap (begins (λ b. b == close)) one) ∙ ap (begins (λ b. b == close)) two ∙ other)

bracket_ends : (bytes r : List ℕ) → begins is_closing bytes ≡ false → bytes ≡ 93 ∷ r → ⊥
bracket_ends bytes r opens e = true_is_not_false (sym (ap (begins is_closing) e) ∙ opens)

brace_ends : (bytes r : List ℕ) → begins is_closing bytes ≡ false → bytes ≡ 125 ∷ r → ⊥
brace_ends bytes r opens e = true_is_not_false (sym (ap (begins is_closing) e) ∙ opens)

comma_rest : (ms : List Member) (a b r s : List ℕ) → Comma ms a r → Comma ms b s → a ≡ b → r ≡ s
comma_rest [] a b r s one two same = one ∙ same ∙ sym two
comma_rest (m ∷ ms) a b r s one two same = one.2 ∙ ap past_gap (after_sign 44 a one.0 two.0 one.1 (same ∙ two.1)) ∙ sym two.2

-- ---- values

no_elements_rest : {d : Declared} {of : Ty} {bytes other r s : List ℕ} → bytes ≡ 93 ∷ r → ListInside d of other s → bytes ≡ other → r ≡ s
no_elements_rest {bytes = bytes} {r = r} {s = s} one (inl two) same = after_sign 93 bytes r s one (same ∙ two)
no_elements_rest {other = other} {r = r} one (inr two) same = absurd (bracket_ends other r (elements_open two.1) (sym same ∙ one))

no_entries_rest : {d : Declared} {key to : Ty} {bytes other r s : List ℕ} → bytes ≡ 125 ∷ r → MapInside d key to other s → bytes ≡ other → r ≡ s
no_entries_rest {bytes = bytes} {r = r} {s = s} one (inl two) same = after_sign 125 bytes r s one (same ∙ two)
no_entries_rest {other = other} {r = r} one (inr two) same = absurd (brace_ends other r (entries_open two.1) (sym same ∙ one))

-- where elements stand, no bracket closes
other_elements : {d : Declared} {of : Ty} {vs : List Value} {bytes other r s : List ℕ} → ElementsBy FORM d of vs bytes r → ListInside d of other s → bytes ≡ other → (ws : List Value) × ElementsBy FORM d of ws other s
other_elements {bytes = bytes} {s = s} one (inl two) same = absurd (bracket_ends bytes s (elements_open one) (same ∙ two))
other_elements one (inr two) same = two

other_entries : {d : Declared} {key to : Ty} {ps : List Pair} {bytes other r s : List ℕ} → EntriesBy FORM d key to ps bytes r → MapInside d key to other s → bytes ≡ other → (qs : List Pair) × EntriesBy FORM d key to qs other s
other_entries {bytes = bytes} {s = s} one (inl two) same = absurd (brace_ends bytes s (entries_open one) (same ∙ two))
other_entries one (inr two) same = two

mutual
  -- of the same bytes, said twice
  value_rest : {d : Declared} {t : Ty} {v w : Value} {bytes other r s : List ℕ} → SpellsBy FORM d t v bytes r → SpellsBy FORM d t w other s → bytes ≡ other → r ≡ s
  value_rest {bytes = bytes} {r = r} {s = s} (spelling.truth b is v_is text) two same =
      let o = shape_at ty.Bool is two in
      truth_rest b o.0 bytes r s text (same ∙ o.1)
  value_rest {d = d} {t = t} {bytes = bytes} {other = other} {r = r} {s = s} (spelling.number n fits v_is says) two same =
      let o = is_number_shape d (out-Ty t) other s fits (shape two) in
      number_rest d (out-Ty t) n o.0 bytes r s says (subst (λ (b : List ℕ). SaysNumber d (out-Ty t) o.0 b s) (sym same) o.1)
  value_rest {bytes = bytes} (spelling.text a inside is v_is text inner) two same =
      let o = shape_at ty.Text is two in
      text_rest inner o.3 (after_sign 34 bytes inside o.0 text (same ∙ o.1))
  value_rest {bytes = bytes} (spelling.blob of a inside is byte v_is text inner) two same =
      let o = blob_shape of is byte two in
      blob_rest inner o.3 (after_sign 35 bytes inside o.0 text (same ∙ o.1))
  value_rest {bytes = bytes} (spelling.no_elements of inside is no_byte v_is text closes) two same =
      let o = list_shape of is no_byte two in
      no_elements_rest closes o.2 (ap past_gap (after_sign 91 bytes inside o.0 text (same ∙ o.1)))
  value_rest {bytes = bytes} (spelling.elements of vs inside is no_byte v_is text inner) two same =
      let o = list_shape of is no_byte two in
      let same_inner = ap past_gap (after_sign 91 bytes inside o.0 text (same ∙ o.1)) in
      elements_rest inner (other_elements inner o.2 same_inner).1 same_inner
  value_rest {bytes = bytes} (spelling.no_entries key to inside is v_is text closes) two same =
      let o = shape_at (ty.Map key to) is two in
      no_entries_rest closes o.2 (ap past_gap (after_sign 123 bytes inside o.0 text (same ∙ o.1)))
  value_rest {bytes = bytes} (spelling.entries key to ps all inside is v_is text inner placed) two same =
      let o = shape_at (ty.Map key to) is two in
      let same_inner = ap past_gap (after_sign 123 bytes inside o.0 text (same ∙ o.1)) in
      entries_rest inner (other_entries inner o.2 same_inner).1 same_inner
  value_rest {bytes = bytes} (spelling.members k vs inside is v_is text inner) two same =
      let o = shape_at (ty.Struct k) is two in
      members_rest inner o.3 (ap past_gap (after_sign 40 bytes inside o.0 text (same ∙ o.1)))

  elements_rest : {d : Declared} {of : Ty} {vs ws : List Value} {bytes other r s : List ℕ} → ElementsBy FORM d of vs bytes r → ElementsBy FORM d of ws other s → bytes ≡ other → r ≡ s
  elements_rest {r = r} {s = s} (spelling.last_element next is closes) (spelling.last_element next' is' closes') same =
      after_sign 93 (past_gap next) r s closes (ap past_gap (value_rest is is' same) ∙ closes')
  elements_rest {r = r} (spelling.last_element next is closes) (spelling.more_elements next' inside' is' comma' others') same =
      absurd (closes_or_goes_on 93 (past_gap next) r inside' refl closes (ap past_gap (value_rest is is' same) ∙ comma'))
  elements_rest {s = s} (spelling.more_elements next inside is comma others) (spelling.last_element next' is' closes') same =
      absurd (closes_or_goes_on 93 (past_gap next) s inside refl (ap past_gap (value_rest is is' same) ∙ closes') comma)
  elements_rest (spelling.more_elements next inside is comma others) (spelling.more_elements next' inside' is' comma' others') same =
      elements_rest others others' (ap past_gap (after_sign 44 (past_gap next) inside inside' comma (ap past_gap (value_rest is is' same) ∙ comma')))

  entries_rest : {d : Declared} {key to : Ty} {ps qs : List Pair} {bytes other r s : List ℕ} → EntriesBy FORM d key to ps bytes r → EntriesBy FORM d key to qs other s → bytes ≡ other → r ≡ s
  entries_rest {r = r} {s = s} (spelling.last_entry next is closes) (spelling.last_entry next' is' closes') same =
      after_sign 125 (past_gap next) r s closes (ap past_gap (entry_rest is is' same) ∙ closes')
  entries_rest {r = r} (spelling.last_entry next is closes) (spelling.more_entries next' inside' is' comma' others') same =
      absurd (closes_or_goes_on 125 (past_gap next) r inside' refl closes (ap past_gap (entry_rest is is' same) ∙ comma'))
  entries_rest {s = s} (spelling.more_entries next inside is comma others) (spelling.last_entry next' is' closes') same =
      absurd (closes_or_goes_on 125 (past_gap next) s inside refl (ap past_gap (entry_rest is is' same) ∙ closes') comma)
  entries_rest (spelling.more_entries next inside is comma others) (spelling.more_entries next' inside' is' comma' others') same =
      entries_rest others others' (ap past_gap (after_sign 44 (past_gap next) inside inside' comma (ap past_gap (entry_rest is is' same) ∙ comma')))

  entry_rest : {d : Declared} {key to : Ty} {p q : Pair} {bytes other r s : List ℕ} → EntryBy FORM d key to p bytes r → EntryBy FORM d key to q other s → bytes ≡ other → r ≡ s
  entry_rest (spelling.entry k v colon start p_is key_is sign value_is) (spelling.entry k' v' colon' start' p_is' key_is' sign' value_is') same =
      value_rest value_is value_is' (ap past_gap (after_sign 58 (past_gap colon) start start' sign (ap past_gap (value_rest key_is key_is' same) ∙ sign')))

  members_rest : {d : Declared} {ms : List Member} {vs ws : List Value} {bytes other r s : List ℕ} → MembersBy FORM d ms vs bytes r → MembersBy FORM d ms ws other s → bytes ≡ other → r ≡ s
  members_rest {bytes = bytes} {r = r} {s = s} (spelling.no_members text) (spelling.no_members text') same = after_sign 41 bytes r s text (same ∙ text')
  members_rest {bytes = bytes} (spelling.more_members {m = m} {ms = ms} equals start next after name sign is comma others) (spelling.more_members equals' start' next' after' name' sign' is' comma' others') same =
      let one_equals = after_word m.name bytes equals equals' name (same ∙ name') in
      let one_start = after_sign 61 (past_gap equals) start start' sign (ap past_gap one_equals ∙ sign') in
      members_rest others others' (comma_rest ms (past_gap next) (past_gap next') after after' comma comma' (ap past_gap (value_rest is is' (ap past_gap one_start))))

-- what stands after a value's text is one rest
pub one_rest : {d : Declared} {t : Ty} {v w : Value} {bytes r s : List ℕ} → SpellsBy FORM d t v bytes r → SpellsBy FORM d t w bytes s → r ≡ s
one_rest one two = value_rest one two refl
