-- Lists in which reading gets stuck.
use Rattle.std.proofs.Common.{◌≡◌, ◌≤◌, inl, inr, ℕ, zero, suc, Bool, true, false, ◌==◌, cond, List, [], ◌∷◌, length, drop, Ok, Err, refl, sym, ap, ◌∙◌, subst, arith}
use Rattle.std.proofs.lemmas.List.{nil_from_length}
use Rattle.facts.specs.ResultSteps.{◌>>=◌}
use Rattle.idl_lex.specs.Bytes.{begins}
use Rattle.tars_model.specs.Declarations.{Declared}
use Rattle.tars_model.specs.Schemas.{IsSchema}
use Rattle.tars_model.specs.Values.{is_byte}
use Rattle.tars_model.specs.declared.ty.Ty.{Ty, out-Ty}
use Rattle.tars_model.specs.declared.ty.Ty.TheOpen as ty
use Rattle.tars_model.specs.declared.value.Value.{Value}
use Rattle.tars_model.specs.declared.value.Value.TheVariants as values
use Rattle.value_text.specs.Answers.{IsEnd}
use Rattle.value_text.specs.ReadSteps.{Read, sign_at, turn_at}
use Rattle.value_text.specs.ValueSteps.{element_then, elements_at, list_inside, list_at}
use Rattle.value_text.specs.Spelling.{past_gap, FORM, ElementsBy, SpellsBy}
use Rattle.value_text.specs.Spelling as spelling
use Rattle.value_text.specs.declared.value_fault.ValueWhy.TheVariants.{Unexpected}
use Rattle.value_text.proofs.Signs.{read_ok, turn_stands, sign_stands, true_is_not_false, past_gap_shorter}
use Rattle.value_text.proofs.Sizes.{value_shorter}
use Rattle.value_text.proofs.Sound.{Sound}
use Rattle.value_text.proofs.Opening.{elements_open}
use Rattle.value_text.proofs.Moving.Shapes.{list_shape, ListInside}
use Rattle.value_text.proofs.Stopping.Languages.{Language, Stuck, Filled, Then, Word, Either, this, that, stuck_in_other, stuck_at_end, stuck_as, filled_as}
use Rattle.value_text.proofs.Stopping.Passing.{Opens, Formed, filled_after_value, formed_some, no_closing_no_gap, stuck_after_value, stuck_in_value, Turn, turn_filled, turn_ends, stuck_before_turn, stuck_after_comma}
use Rattle.value_text.proofs.Stopping.Signs.{stop, stops_so, Stops, before, after, step_stops, others_stop, Sign, sign_refused, stuck_before_sign, stuck_after_sign, is_gap}

-- where a reader meets an unexpected byte, reading values of the type gets stuck
abbrev pub Sticks : Declared → Ty → ℕ → (List ℕ → Read Value) → Type 0
Sticks d t room f = (bytes left : List ℕ) → length bytes ≤ room → f bytes ≡ Err (stop left Unexpected) → Stuck IsEnd (Formed d t) bytes left

module _ (d : Declared) (of : Ty) where
  abbrev pub Elements : Language
  Elements bytes rest = (vs : List Value) × ElementsBy FORM d of vs bytes rest

  -- an element, and what comes after it
  abbrev ElementsParts : Language
  ElementsParts = Then (Formed d of) (Turn 93 Elements)

  elements_whole : (bytes rest : List ℕ) → ElementsParts bytes rest → Elements bytes rest
  elements_whole bytes rest t = by_turn t.second
    where
      by_turn : Turn 93 Elements t.between rest → Elements bytes rest
      by_turn (this closes) = (t.first.0 ∷ [], spelling.last_element t.between t.first.1 closes)
      by_turn (that s) = (t.first.0 ∷ s.second.0, spelling.more_elements t.between s.between t.first.1 s.first s.second.1)

  elements_parts : {vs : List Value} {bytes rest : List ℕ} → ElementsBy FORM d of vs bytes rest → ElementsParts bytes rest
  elements_parts (spelling.last_element {v = v} next is closes) = record { between = next; first = (v, is); second = this closes }
  elements_parts (spelling.more_elements {v = v} {vs = vs} next inside is comma others) = record { between = next; first = (v, is); second = that (record { between = inside; first = comma; second = (vs, others) }) }

  elements_opens : Opens Elements
  elements_opens bytes rest es = no_closing_no_gap bytes (elements_open es.1)

  elements_some : (rest : List ℕ) → Elements [] rest → ⊥
  elements_some rest es = let p = elements_parts es.1 in formed_some d of p.between p.first

  as_elements : {bytes left : List ℕ} → Stuck IsEnd ElementsParts bytes left → Stuck IsEnd Elements bytes left
  as_elements s = stuck_as ElementsParts Elements (λ tail ends. ends) elements_whole (λ b r es. elements_parts es.1) s

  turn_here : Filled IsEnd (Turn 93 Elements)
  turn_here = turn_filled 93 Elements refl

  elements_filled : IsSchema d → Filled IsEnd Elements
  elements_filled schema = filled_as ElementsParts Elements elements_whole (filled_after_value (Turn 93 Elements) (turn_ends 93 Elements refl) d schema of turn_here)

  module _ (schema : IsSchema d) (room : ℕ) (f : List ℕ → Read Value) (sound : Sound d of f) (sticks : Sticks d of room f) where
    stuck_in_elements : (count : ℕ) (bytes left : List ℕ) → length bytes ≤ count → length bytes ≤ room → elements_at f count bytes ≡ Err (stop left Unexpected) → Stuck IsEnd Elements bytes left
    unfolding elements_at
    stuck_in_elements zero bytes left few within e =
        let none = nil_from_length bytes (omega arith) in
        subst (Stuck IsEnd Elements bytes) (stops_so {A = List Value × List ℕ} bytes left Unexpected Unexpected e).0
        (subst (λ (b : List ℕ). Stuck IsEnd Elements b b) (sym none) (stuck_at_end Elements elements_some (elements_filled schema)))
    stuck_in_elements (suc count) bytes left few within e =
        by_value (step_stops (f bytes) (λ v. turn_at 93 v.1 >>= λ turn. element_then v.0 turn.0 turn.1 (elements_at f count turn.1)) (stop left Unexpected) e)
        (λ next fewer inner. stuck_in_elements count next left fewer inner)
      where
        Deeper : Type 0
        Deeper = (next : List ℕ) → length next ≤ count → length next ≤ room → elements_at f count next ≡ Err (stop left Unexpected) → Stuck IsEnd Elements next left

        by_comma : (v : Value) (next : List ℕ) → f bytes ≡ Ok (v, next) → (last : Bool) (start : List ℕ) → turn_at 93 next ≡ Ok (last, start) → Deeper
            → element_then v last start (elements_at f count start) ≡ Err (stop left Unexpected) → Stuck IsEnd ElementsParts bytes left
        by_comma v next is true start turn deeper e = absurd cc
        by_comma v next is false start turn deeper e =
            let spelled = sound bytes v next is in
            let comma = turn_stands 93 next start false turn in
            let less = value_shorter spelled in
            let gap = past_gap_shorter next in
            let comma_len = ap length comma.1 in
            let gap_in = past_gap_shorter comma.0 in
            let start_len = ap length comma.2 in
            stuck_after_value (Turn 93 Elements) (turn_ends 93 Elements refl) spelled
            (stuck_after_comma 93 Elements refl elements_opens refl next comma.0 left comma.1
            (subst (λ (b : List ℕ). Stuck IsEnd Elements b left) (sym comma.2) (deeper start (omega arith) (omega arith) (others_stop (elements_at f count start) (λ o. v ∷ o) left Unexpected e))))

        by_turn : (v : Value) (next : List ℕ) → f bytes ≡ Ok (v, next) → Deeper → Stops (turn_at 93 next) (λ turn. element_then v turn.0 turn.1 (elements_at f count turn.1)) (stop left Unexpected) → Stuck IsEnd ElementsParts bytes left
        by_turn v next is deeper (before e) = stuck_after_value (Turn 93 Elements) (turn_ends 93 Elements refl) (sound bytes v next is) (stuck_before_turn 93 Elements refl next left Unexpected e)
        by_turn v next is deeper (after turn turns e) = by_comma v next is turn.0 turn.1 turns deeper e

        by_value : Stops (f bytes) (λ v. turn_at 93 v.1 >>= λ turn. element_then v.0 turn.0 turn.1 (elements_at f count turn.1)) (stop left Unexpected) → Deeper → Stuck IsEnd Elements bytes left
        by_value (before e) deeper = as_elements (stuck_in_value (Turn 93 Elements) (turn_ends 93 Elements refl) turn_here (sticks bytes left within e))
        by_value (after v is e) deeper =
            as_elements (by_turn v.0 v.1 is deeper (step_stops (turn_at 93 v.1) (λ turn. element_then v.0 turn.0 turn.1 (elements_at f count turn.1)) (stop left Unexpected) e))

  -- ---- whole lists

  -- after the bracket: no element, or some
  abbrev Inside : Language
  Inside = Either (Word (93 ∷ [])) Elements

  inside_opens : Opens Inside
  inside_opens bytes rest (this is) = ap (begins is_gap) is
  inside_opens bytes rest (that es) = elements_opens bytes rest es

  inside_filled : Filled IsEnd Inside
  inside_filled = record { filling = 93 ∷ []; fills = λ tail ends. this refl }

  module _ (t : Ty) (is : out-Ty t ≡ ty.Vector of) (is_list : is_byte (out-Ty of) ≡ false) where
    list_whole : (bytes rest : List ℕ) → Sign 91 Inside bytes rest → Formed d t bytes rest
    list_whole bytes rest s = by_inside s.second
      where
        by_inside : Inside (past_gap s.between) rest → Formed d t bytes rest
        by_inside (this closes) = (values.List [], spelling.no_elements of s.between is is_list refl s.first closes)
        by_inside (that es) = (values.List es.0, spelling.elements of es.0 s.between is is_list refl s.first es.1)

    list_parts : (bytes rest : List ℕ) → Formed d t bytes rest → Sign 91 Inside bytes rest
    list_parts bytes rest v = let l = list_shape of is is_list v.1 in record { between = l.0; first = l.1; second = by_inside (past_gap l.0) l.2 }
      where
        by_inside : (here : List ℕ) → ListInside d of here rest → Inside here rest
        by_inside here (inl closes) = this closes
        by_inside here (inr es) = that es

    module _ (schema : IsSchema d) (room : ℕ) (f : List ℕ → Read Value) (sound : Sound d of f) (sticks : Sticks d of room f) where
      pub stuck_in_list : Sticks d t (suc room) (list_at f)
      unfolding list_at
      stuck_in_list bytes left within e = stuck_as (Sign 91 Inside) (Formed d t) (λ tail ends. ends) list_whole list_parts (by_sign (step_stops (sign_at 91 bytes) (list_inside f) (stop left Unexpected) e))
        where
          by_first : (start inside : List ℕ) → bytes ≡ 91 ∷ inside → past_gap inside ≡ start → (closed : Bool) → begins (λ b. b == 93) start ≡ closed
              → cond closed (read_ok (values.List []) (drop 1 start)) (elements_at f (length start) start >>= λ vs. read_ok (values.List vs.0) vs.1) ≡ Err (stop left Unexpected) → Stuck IsEnd (Sign 91 Inside) bytes left
          by_first start inside text gap true closes e = absurd cc
          by_first start inside text gap false opens e =
              let gap_in = past_gap_shorter inside in
              let start_len = ap length gap in
              let len = ap length text in
              let elements = stuck_in_elements schema room f sound sticks (length start) start left (omega arith) (omega arith) (others_stop (elements_at f (length start) start) (λ vs. values.List vs) left Unexpected e) in
              stuck_after_sign 91 Inside inside_opens inside text
              (subst (λ (b : List ℕ). Stuck IsEnd Inside b left) (sym gap)
              (stuck_in_other (Word (93 ∷ [])) Elements (λ b. b == 93) (λ b r is same. true_is_not_false (sym (ap (begins (λ b. b == 93)) is) ∙ same ∙ opens)) elements))

          by_sign : Stops (sign_at 91 bytes) (list_inside f) (stop left Unexpected) → Stuck IsEnd (Sign 91 Inside) bytes left
          by_sign (before e) = stuck_before_sign 91 Inside inside_opens inside_filled (sign_refused 91 bytes left Unexpected e)
          by_sign (after start read e) = let sign = sign_stands 91 bytes start read in by_first start sign.0 sign.1 sign.2 (begins (λ b. b == 93) start) refl e
