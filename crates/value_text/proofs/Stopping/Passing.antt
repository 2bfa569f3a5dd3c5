-- Values and signs, and what gets stuck after them.
use Rattle.std.proofs.Common.{◌≡◌, ℕ, Bool, true, false, ◌==◌, ◌||◌, cond, List, [], ◌∷◌, ◌++◌, Err, refl, sym, ap, ◌∙◌, subst, arith}
use Rattle.std.proofs.lemmas.Bool.Decides.{nat_tests}
use Rattle.idl_lex.specs.Bytes.{begins, is_word_byte}
use Rattle.tars_model.specs.Declarations.{Declared}
use Rattle.tars_model.specs.Schemas.{IsSchema}
use Rattle.tars_model.specs.declared.ty.Ty.{Ty}
use Rattle.tars_model.specs.declared.value.Value.{Value}
use Rattle.value_text.specs.Answers.{IsEnd}
use Rattle.value_text.specs.ReadSteps.{unexpected, turn_after, turn_at}
use Rattle.value_text.specs.Spelling.{past_gap, ALL, FORM, SpellsBy}
use Rattle.value_text.specs.declared.value_fault.ValueWhy.{ValueWhy}
use Rattle.value_text.specs.declared.value_fault.ValueWhy.TheVariants.{Unexpected}
use Rattle.value_text.proofs.Forms.{has_form}
use Rattle.value_text.proofs.Opening.{is_closing, value_opens}
use Rattle.value_text.proofs.Signs.{read_ok, same_byte, true_is_not_false}
use Rattle.value_text.proofs.Sizes.{value_shorter}
use Rattle.value_text.proofs.Moving.Fills.{fills}
use Rattle.value_text.proofs.Moving.Moved.{Follows}
use Rattle.value_text.proofs.Moving.Moves.{value_moves}
use Rattle.value_text.proofs.Moving.OneRest.{one_rest}
use Rattle.value_text.proofs.Stopping.Languages.{Language, Follower, Stuck, Filled, Passes, Then, Word, Either, this, that, begins_alike, none_of, stuck_in_first, stuck_in_second, stuck_in_other, filled_then}
use Rattle.value_text.proofs.Stopping.Signs.{stop, stops_so, is_gap, NoGap, Past, Sign, stuck_past_gap, stuck_after_sign}

-- ---- what a text begins with

-- it begins with no space or line feed
abbrev pub Opens : Language → Type 0
Opens L = (bytes rest : List ℕ) → L bytes rest → NoGap bytes

-- it may stand right after a value
abbrev pub Ends : Language → Type 0
Ends L = (bytes rest : List ℕ) → L bytes rest → IsEnd bytes

no_word_in_gap : (b : ℕ) → is_gap b ≡ true → is_word_byte b ≡ false
no_word_in_gap b h = grind (arith, nat_tests)

pub past_gap_ends_value : (bytes : List ℕ) → IsEnd (past_gap bytes) → IsEnd bytes
past_gap_ends_value [] ends = refl
past_gap_ends_value (b ∷ bytes) ends = by_test (is_gap b) refl ends
  where
    by_test : (t : Bool) → is_gap b ≡ t → IsEnd (cond t (past_gap bytes) (b ∷ bytes)) → is_word_byte b ≡ false
    by_test true gap ends = no_word_in_gap b gap
    by_test false gap ends = ends

pub sign_opens : (c : ℕ) (L : Language) → is_gap c ≡ false → Opens (Sign c L)
sign_opens c L no_gap bytes rest t = ap (begins is_gap) t.first ∙ no_gap

pub sign_ends : (c : ℕ) (L : Language) → is_word_byte c ≡ false → Ends (Past (Sign c L))
sign_ends c L no_word bytes rest t = past_gap_ends_value bytes (ap (begins is_word_byte) t.first ∙ no_word)

-- ---- values

abbrev pub Formed : Declared → Ty → Language
Formed d t bytes rest = (v : Value) × SpellsBy FORM d t v bytes rest

pub formed_filled : (d : Declared) → IsSchema d → (t : Ty) → Filled IsEnd (Formed d t)
formed_filled d schema t = let f = fills d schema t in record { filling = f.text; fills = λ tail ends. (f.value, f.spells tail ends) }

closing_gap : (b : ℕ) → is_closing b ≡ false → is_gap b ≡ false
closing_gap b h = grind (arith, nat_tests)

pub no_closing_no_gap : (bytes : List ℕ) → begins is_closing bytes ≡ false → NoGap bytes
no_closing_no_gap [] h = refl
no_closing_no_gap (b ∷ bytes) h = closing_gap b h

pub formed_opens : (d : Declared) (t : Ty) → Opens (Formed d t)
formed_opens d t bytes rest v = no_closing_no_gap bytes (value_opens v.1)

pub formed_some : (d : Declared) (t : Ty) (rest : List ℕ) → Formed d t [] rest → ⊥
formed_some d t rest v = let less = value_shorter v.1 in omega arith

formed_passes : {d : Declared} {t : Ty} {v : Value} {bytes next : List ℕ} → SpellsBy FORM d t v bytes next → Passes (Follows next) (Formed d t) bytes next
formed_passes {v = v} s =
    let m = value_moves s in
    record {
      front = m.front;
      is = m.is;
      goes = λ other follows. (v, m.again other follows);
      alone = λ other rest follows w. one_rest w.1 (m.again other follows);
    }

weaker : (test : ℕ → Bool) → ((b : ℕ) → is_word_byte b ≡ false → test b ≡ false) → (bytes : List ℕ) → IsEnd bytes → begins test bytes ≡ false
weaker test weak [] ends = refl
weaker test weak (b ∷ bytes) ends = weak b ends

pub stuck_after_value : (L : Language) → Ends L → {d : Declared} {t : Ty} {v : Value} {bytes next left : List ℕ} → SpellsBy ALL d t v bytes next → Stuck IsEnd L next left → Stuck IsEnd (Then (Formed d t) L) bytes left
stuck_after_value L ends {d = d} {t = t} {left = left} s stuck =
    stuck_in_second (Formed d t) L (formed_passes (has_form s).1) stuck (λ b r l. λ test weak h. weaker test weak b (ends b r l))
    (λ other agree. λ test weak h. begins_alike test stuck.front left other agree ∙ ap (begins test) (sym stuck.is) ∙ h)

pub stuck_in_value : (L : Language) → Ends L → Filled IsEnd L → {d : Declared} {t : Ty} {bytes left : List ℕ} → Stuck IsEnd (Formed d t) bytes left → Stuck IsEnd (Then (Formed d t) L) bytes left
stuck_in_value L ends f {d = d} {t = t} stuck = stuck_in_first (Formed d t) L f (λ tail end. ends (f.filling ++ tail) tail (f.fills tail end)) stuck

pub filled_after_value : (L : Language) → Ends L → (d : Declared) → IsSchema d → (t : Ty) → Filled IsEnd L → Filled IsEnd (Then (Formed d t) L)
filled_after_value L ends d schema t f = filled_then (Formed d t) L (formed_filled d schema t) f (λ tail end. ends (f.filling ++ tail) tail (f.fills tail end))

-- ---- the sign after an element

-- the closing sign, or a comma and more
abbrev pub Turn : ℕ → Language → Language
Turn close L = Past (Either (Word (close ∷ [])) (Sign 44 L))

module _ (close : ℕ) (L : Language) (no_gap : is_gap close ≡ false) where
  turn_opens : Opens (Either (Word (close ∷ [])) (Sign 44 L))
  turn_opens bytes rest (this is) = ap (begins is_gap) is ∙ no_gap
  turn_opens bytes rest (that t) = ap (begins is_gap) t.first

  pub turn_filled : {Before : Follower} → Filled Before (Turn close L)
  turn_filled = record { filling = close ∷ []; fills = λ tail ends. this (rw no_gap refl) }

  turns : (bytes rest : List ℕ) → Either (Word (close ∷ [])) (Sign 44 L) bytes rest → begins (λ b. b == close || b == 44) bytes ≡ true
  turns bytes rest (this is) = ap (begins (λ b. b == close || b == 44)) is ∙ rw (same_byte close) refl
  turns bytes rest (that t) = ap (begins (λ b. b == close || b == 44)) t.first ∙ or_true (44 == close)
    where
      or_true : (t : Bool) → (t || true) ≡ true
      or_true true = refl
      or_true false = refl

  neither_turn : (bytes : List ℕ) → begins (λ b. b == close || b == 44) bytes ≡ false → Stuck IsEnd (Either (Word (close ∷ [])) (Sign 44 L)) bytes bytes
  neither_turn bytes none = record {
    front = [];
    is = refl;
    more = close ∷ [];
    goes_on = λ tail ends. this refl;
    blocked = λ other rest agree t. none_of (λ b. b == close || b == 44) bytes other none agree (turns other rest t);
  }

  -- another byte comes
  pub stuck_before_turn : (bytes left : List ℕ) (why : ValueWhy) → turn_at close bytes ≡ Err (stop left why) → Stuck IsEnd (Turn close L) bytes left
  unfolding turn_after
  stuck_before_turn bytes left why e = stuck_past_gap (Either (Word (close ∷ [])) (Sign 44 L)) turn_opens (at_byte (past_gap bytes) e)
    where
      at_byte : (here : List ℕ) → turn_after close here ≡ Err (stop left why) → Stuck IsEnd (Either (Word (close ∷ [])) (Sign 44 L)) here left
      at_byte [] e = subst (Stuck IsEnd (Either (Word (close ∷ [])) (Sign 44 L)) []) (stops_so {A = Bool × List ℕ} [] left Unexpected why e).0 (neither_turn [] refl)
      at_byte (b ∷ here) e = by_close (b == close) refl e
        where
          by_comma : (t : Bool) → (b == close) ≡ false → (b == 44) ≡ t → cond t (read_ok false (past_gap here)) (unexpected (b ∷ here)) ≡ Err (stop left why) → Stuck IsEnd (Either (Word (close ∷ [])) (Sign 44 L)) (b ∷ here) left
          by_comma true other is e = absurd cc
          by_comma false other is e =
              subst (Stuck IsEnd (Either (Word (close ∷ [])) (Sign 44 L)) (b ∷ here)) (stops_so {A = Bool × List ℕ} (b ∷ here) left Unexpected why e).0 (neither_turn (b ∷ here) (rw (other, is) refl))

          by_close : (t : Bool) → (b == close) ≡ t → cond t (read_ok true here) (cond (b == 44) (read_ok false (past_gap here)) (unexpected (b ∷ here))) ≡ Err (stop left why) → Stuck IsEnd (Either (Word (close ∷ [])) (Sign 44 L)) (b ∷ here) left
          by_close true is e = absurd cc
          by_close false is e = by_comma (b == 44) is refl e

  -- a comma comes, and the rest gets stuck
  pub stuck_after_comma : Opens L → (44 == close) ≡ false → (next inside left : List ℕ) → past_gap next ≡ 44 ∷ inside → Stuck IsEnd L (past_gap inside) left → Stuck IsEnd (Turn close L) next left
  stuck_after_comma opens differs next inside left comma s =
      stuck_past_gap (Either (Word (close ∷ [])) (Sign 44 L)) turn_opens
      (stuck_in_other (Word (close ∷ [])) (Sign 44 L) (λ b. b == close)
      (λ b r is same. true_is_not_false (sym (same_byte close) ∙ sym (ap (begins (λ b. b == close)) is) ∙ same ∙ ap (begins (λ b. b == close)) comma ∙ differs))
      (stuck_after_sign 44 L opens inside comma s))

pub turn_ends : (close : ℕ) (L : Language) → is_word_byte close ≡ false → Ends (Turn close L)
turn_ends close L no_word bytes rest t = past_gap_ends_value bytes (by_turn (past_gap bytes) t)
  where
    by_turn : (here : List ℕ) → Either (Word (close ∷ [])) (Sign 44 L) here rest → IsEnd here
    by_turn here (this is) = ap (begins is_word_byte) is ∙ no_word
    by_turn here (that t) = ap (begins is_word_byte) t.first
