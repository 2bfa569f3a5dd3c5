-- Structs in which reading gets stuck.
use Rattle.std.proofs.Common.{◌≡◌, ◌≤◌, ℕ, suc, true, false, List, [], ◌∷◌, ◌++◌, length, Err, refl, sym, ap, ◌∙◌, subst, arith, length-append}
use Rattle.std.proofs.lemmas.Bool.Decides.{nat_tests}
use Rattle.std.specs.Char.{is_ascii_alphabetic}
use Rattle.facts.specs.ResultSteps.{◌>>=◌}
use Rattle.idl_lex.specs.Bytes.{begins, is_word_byte}
use Rattle.tars_model.specs.Declarations.{Declared, members_at}
use Rattle.tars_model.specs.Schemas.{IsSchema}
use Rattle.tars_model.specs.declared.member.Member.{Member}
use Rattle.tars_model.specs.declared.ty.Ty.{Ty, out-Ty}
use Rattle.tars_model.specs.declared.ty.Ty.TheOpen as ty
use Rattle.tars_model.specs.declared.value.Value.{Value}
use Rattle.tars_model.specs.declared.value.Value.TheVariants as values
use Rattle.value_text.specs.Answers.{IsEnd}
use Rattle.value_text.specs.ReadSteps.{Read, byte_at, word_at, sign_at}
use Rattle.value_text.specs.ValueSteps.{field_at, comma_at, fields_at, struct_at}
use Rattle.value_text.specs.Spelling.{past_gap, FORM, ALL, MembersBy, SpellsBy}
use Rattle.value_text.specs.Spelling as spelling
use Rattle.value_text.specs.declared.value_fault.ValueWhy.TheVariants.{Unexpected}
use Rattle.value_text.proofs.Signs.{read_ok, word_stands, sign_stands, past_gap_shorter}
use Rattle.value_text.proofs.Sizes.{value_shorter}
use Rattle.value_text.proofs.Sound.{Sound, field_sound}
use Rattle.value_text.proofs.Induction.{AllOf}
use Rattle.value_text.proofs.SchemaNames.{HasLetter, schema_names}
use Rattle.value_text.proofs.Moving.Shapes.{shape_at}
use Rattle.value_text.proofs.Stopping.Languages.{Language, Anything, Stuck, Filled, Then, Word, stuck_as, stuck_in_first, stuck_after, word_passes, word_filled, filled_as, filled_then}
use Rattle.value_text.proofs.Stopping.Lists.{Sticks}
use Rattle.value_text.proofs.Stopping.Passing.{past_gap_ends_value, Opens, Ends, sign_opens, sign_ends, formed_opens, Formed, filled_after_value, stuck_after_value, stuck_in_value}
use Rattle.value_text.proofs.Stopping.Signs.{stuck_in_word, stuck_at_sign, byte_refused, NoGap, Past, filled_sign, filled_past_gap, stuck_past_gap, stop, Stops, before, after, step_stops, others_stop, Sign, sign_refused, stuck_before_sign, stuck_after_sign, is_gap}

abbrev no_values : List Value
no_values = []

module _ (d : Declared) where
  abbrev Members : List Member → Language
  Members ms bytes rest = (vs : List Value) × MembersBy FORM d ms vs bytes rest

  -- what comes after a member
  abbrev Others : List Member → Language
  Others [] = Past (Word (41 ∷ []))
  Others (m ∷ ms) = Past (Sign 44 (Members (m ∷ ms)))

  abbrev Valued : Member → List Member → Language
  Valued m ms = Then (Formed d m.ty) (Others ms)

  abbrev MembersParts : Member → List Member → Language
  MembersParts m ms = Then (Word m.name) (Past (Sign 61 (Valued m ms)))

  members_whole : (m : Member) (ms : List Member) (bytes rest : List ℕ) → MembersParts m ms bytes rest → Members (m ∷ ms) bytes rest
  members_whole m [] bytes rest t =
      let v = t.second.second in
      (v.first.0 ∷ [], spelling.more_members t.between t.second.between v.between (past_gap v.between) t.first t.second.first v.first.1 refl (spelling.no_members v.second))
  members_whole m (n ∷ ms) bytes rest t =
      let v = t.second.second in
      (v.first.0 ∷ v.second.second.0, spelling.more_members t.between t.second.between v.between (past_gap v.second.between) t.first t.second.first v.first.1 (v.second.between, v.second.first, refl) v.second.second.1)

  no_more : {vs : List Value} {bytes rest : List ℕ} → MembersBy FORM d [] vs bytes rest → bytes ≡ 41 ∷ rest
  no_more (spelling.no_members is) = is

  members_parts : (m : Member) (ms : List Member) {vs : List Value} {bytes rest : List ℕ} → MembersBy FORM d (m ∷ ms) vs bytes rest → MembersParts m ms bytes rest
  members_parts m [] (spelling.more_members {v = v} {vs = vs} equals start next start_of name sign is comma others) =
      record { between = equals; first = name; second = record { between = start; first = sign; second = record { between = next; first = (v, is); second = sym comma ∙ no_more others } } }
  members_parts m (n ∷ ms) {rest = rest} (spelling.more_members {v = v} {vs = vs} equals start next start_of name sign is comma others) =
      record {
        between = equals;
        first = name;
        second = record {
          between = start;
          first = sign;
          second = record {
            between = next;
            first = (v, is);
            second = record { between = comma.0; first = comma.1; second = (vs, subst (λ (b : List ℕ). MembersBy FORM d (n ∷ ms) vs b rest) comma.2 others) };
          };
        };
      }

  as_members : (m : Member) (ms : List Member) {bytes left : List ℕ} → Stuck IsEnd (MembersParts m ms) bytes left → Stuck IsEnd (Members (m ∷ ms)) bytes left
  as_members m ms s = stuck_as (MembersParts m ms) (Members (m ∷ ms)) (λ tail ends. ends) (members_whole m ms) (λ b r x. members_parts m ms x.1) s

  -- ---- what it begins with

  name_opens : (name rest : List ℕ) → begins is_ascii_alphabetic name ≡ true → NoGap (name ++ rest)
  name_opens [] rest letter = absurd cc
  name_opens (b ∷ name) rest letter = apart b letter
    where
      apart : (b : ℕ) → is_ascii_alphabetic b ≡ true → is_gap b ≡ false
      apart b letter = grind (arith, nat_tests)

  members_opens : (ms : List Member) → AllOf HasLetter ms → Opens (Members ms)
  members_opens [] letters bytes rest x = ap (begins is_gap) (no_more x.1)
  members_opens (m ∷ ms) letters bytes rest x = let p = members_parts m ms x.1 in ap (begins is_gap) p.first ∙ name_opens m.name p.between letters.0

  valued_opens : (m : Member) (ms : List Member) → Opens (Valued m ms)
  valued_opens m ms bytes rest t = formed_opens d m.ty bytes t.between t.first

  others_ends : (ms : List Member) → Ends (Others ms)
  others_ends [] bytes rest is = past_gap_ends_value bytes (ap (begins is_word_byte) is)
  others_ends (m ∷ ms) bytes rest t = sign_ends 44 (Members (m ∷ ms)) refl bytes rest t

  -- ---- some members

  module _ (schema : IsSchema d) where
    valued_filled : (m : Member) (ms : List Member) → Filled IsEnd (Others ms) → Filled IsEnd (Valued m ms)
    valued_filled m ms others = filled_after_value (Others ms) (others_ends ms) d schema m.ty others

    equals_filled : (m : Member) (ms : List Member) → Filled IsEnd (Others ms) → Filled IsEnd (Past (Sign 61 (Valued m ms)))
    equals_filled m ms others = filled_past_gap (Sign 61 (Valued m ms)) (sign_opens 61 (Valued m ms) refl) (filled_sign 61 (Valued m ms) (valued_opens m ms) (valued_filled m ms others))

    some_filled : (m : Member) (ms : List Member) → Filled IsEnd (Others ms) → Filled IsEnd (Members (m ∷ ms))
    some_filled m ms others = filled_as (MembersParts m ms) (Members (m ∷ ms)) (members_whole m ms) (filled_then (Word m.name) (Past (Sign 61 (Valued m ms))) (word_filled m.name) (equals_filled m ms others) (λ tail ends. tt))

    others_filled : (ms : List Member) → AllOf HasLetter ms → Filled IsEnd (Others ms)
    others_filled [] letters = record { filling = 41 ∷ []; fills = λ tail ends. refl }
    others_filled (m ∷ ms) letters = filled_past_gap (Sign 44 (Members (m ∷ ms))) (sign_opens 44 (Members (m ∷ ms)) refl) (filled_sign 44 (Members (m ∷ ms)) (members_opens (m ∷ ms) letters) (some_filled m ms (others_filled ms letters.1)))

    members_filled : (ms : List Member) → AllOf HasLetter ms → Filled IsEnd (Members ms)
    members_filled [] letters = record { filling = 41 ∷ []; fills = λ tail ends. ([], spelling.no_members refl) }
    members_filled (m ∷ ms) letters = some_filled m ms (others_filled ms letters.1)

    module _ (room : ℕ) (f : Ty → List ℕ → Read Value) (sound : (t : Ty) → Sound d t (f t)) (sticks : (t : Ty) → Sticks d t room (f t)) where
      -- the name, `=` or the value
      stuck_in_field : (m : Member) (ms : List Member) → AllOf HasLetter (m ∷ ms) → (bytes left : List ℕ) → length bytes ≤ room → field_at f m bytes ≡ Err (stop left Unexpected) → Stuck IsEnd (MembersParts m ms) bytes left
      unfolding field_at
      stuck_in_field m ms letters bytes left within e = by_name (step_stops (word_at m.name bytes) (λ equals. sign_at 61 (past_gap equals) >>= f m.ty) (stop left Unexpected) e)
        where
          after_name : (equals : List ℕ) → bytes ≡ m.name ++ equals → Stuck IsEnd (Sign 61 (Valued m ms)) (past_gap equals) left → Stuck IsEnd (MembersParts m ms) bytes left
          after_name equals name s = stuck_after (Word m.name) (Past (Sign 61 (Valued m ms))) (word_passes m.name bytes equals name) (stuck_past_gap (Sign 61 (Valued m ms)) (sign_opens 61 (Valued m ms) refl) s)

          by_value : (equals : List ℕ) → bytes ≡ m.name ++ equals → (start inside : List ℕ) → past_gap equals ≡ 61 ∷ inside → past_gap inside ≡ start → f m.ty start ≡ Err (stop left Unexpected) → Stuck IsEnd (MembersParts m ms) bytes left
          by_value equals name start inside sign gap e =
              let name_len = ap length name ∙ length-append m.name equals in
              let gap_out = past_gap_shorter equals in
              let sign_len = ap length sign in
              let gap_in = past_gap_shorter inside in
              let start_len = ap length gap in
              after_name equals name
              (stuck_after_sign 61 (Valued m ms) (valued_opens m ms) inside sign
              (subst (λ (b : List ℕ). Stuck IsEnd (Valued m ms) b left) (sym gap) (stuck_in_value (Others ms) (others_ends ms) (others_filled ms letters.1) (sticks m.ty start left (omega arith) e))))

          by_equals : (equals : List ℕ) → bytes ≡ m.name ++ equals → Stops (sign_at 61 (past_gap equals)) (f m.ty) (stop left Unexpected) → Stuck IsEnd (MembersParts m ms) bytes left
          by_equals equals name (before e) =
              after_name equals name (stuck_before_sign 61 (Valued m ms) (valued_opens m ms) (valued_filled m ms (others_filled ms letters.1)) (sign_refused 61 (past_gap equals) left Unexpected e))
          by_equals equals name (after start read e) = let sign = sign_stands 61 (past_gap equals) start read in by_value equals name start sign.0 sign.1 sign.2 e

          by_name : Stops (word_at m.name bytes) (λ equals. sign_at 61 (past_gap equals) >>= f m.ty) (stop left Unexpected) → Stuck IsEnd (MembersParts m ms) bytes left
          by_name (before e) = stuck_in_first (Word m.name) (Past (Sign 61 (Valued m ms))) (equals_filled m ms (others_filled ms letters.1)) (λ tail ends. tt) (stuck_in_word m.name bytes left Unexpected e)
          by_name (after equals read e) = by_equals equals (word_stands m.name bytes equals read) (step_stops (sign_at 61 (past_gap equals)) (f m.ty) (stop left Unexpected) e)

      -- ---- after a member

      -- the comma, or the members after it
      stuck_in_others : (ms : List Member) → AllOf HasLetter ms → (next left : List ℕ) → ((start : List ℕ) → length start ≤ length next → fields_at f ms start ≡ Err (stop left Unexpected) → Stuck IsEnd (Members ms) start left)
          → (v : Value) → (comma_at ms (past_gap next) >>= λ start. fields_at f ms start >>= λ vs. read_ok (v ∷ vs.0) vs.1) ≡ Err (stop left Unexpected) → Stuck IsEnd (Others ms) next left
      stuck_in_others [] letters next left deeper v e =
          let gap = past_gap_shorter next in
          stuck_past_gap (Word (41 ∷ [])) (λ b r is. ap (begins is_gap) is)
          (stuck_as (Members []) (Word (41 ∷ [])) (λ tail ends. ends) (λ b r x. no_more x.1) (λ b r is. ([], spelling.no_members is))
          (deeper (past_gap next) gap (others_stop (fields_at f [] (past_gap next)) (λ vs. v ∷ vs) left Unexpected e)))
      stuck_in_others (m ∷ ms) letters next left deeper v e =
          stuck_past_gap (Sign 44 (Members (m ∷ ms))) (sign_opens 44 (Members (m ∷ ms)) refl) (by_comma (step_stops (sign_at 44 (past_gap next)) (λ start. fields_at f (m ∷ ms) start >>= λ vs. read_ok (v ∷ vs.0) vs.1) (stop left Unexpected) e))
        where
          by_comma : Stops (sign_at 44 (past_gap next)) (λ start. fields_at f (m ∷ ms) start >>= λ vs. read_ok (v ∷ vs.0) vs.1) (stop left Unexpected) → Stuck IsEnd (Sign 44 (Members (m ∷ ms))) (past_gap next) left
          by_comma (before e) = stuck_before_sign 44 (Members (m ∷ ms)) (members_opens (m ∷ ms) letters) (members_filled (m ∷ ms) letters) (sign_refused 44 (past_gap next) left Unexpected e)
          by_comma (after start read e) =
              let sign = sign_stands 44 (past_gap next) start read in
              let gap = past_gap_shorter next in
              let sign_len = ap length sign.1 in
              let gap_in = past_gap_shorter sign.0 in
              let start_len = ap length sign.2 in
              stuck_after_sign 44 (Members (m ∷ ms)) (members_opens (m ∷ ms) letters) sign.0 sign.1
              (subst (λ (b : List ℕ). Stuck IsEnd (Members (m ∷ ms)) b left) (sym sign.2) (deeper start (omega arith) (others_stop (fields_at f (m ∷ ms) start) (λ vs. v ∷ vs) left Unexpected e)))

      stuck_in_fields : (ms : List Member) → AllOf HasLetter ms → (bytes left : List ℕ) → length bytes ≤ room → fields_at f ms bytes ≡ Err (stop left Unexpected) → Stuck IsEnd (Members ms) bytes left
      unfolding fields_at
      stuck_in_fields [] letters bytes left within e =
          stuck_as (Word (41 ∷ [])) (Members []) (λ tail ends. tt) (λ b r is. ([], spelling.no_members is)) (λ b r x. no_more x.1) (by_close (step_stops (byte_at 41 bytes) (λ rest. read_ok no_values rest) (stop left Unexpected) e))
        where
          by_close : Stops (byte_at 41 bytes) (λ rest. read_ok no_values rest) (stop left Unexpected) → Stuck Anything (Word (41 ∷ [])) bytes left
          by_close (before e) = stuck_at_sign 41 bytes left (byte_refused 41 bytes left Unexpected e)
          by_close (after rest read e) = absurd cc
      stuck_in_fields (m ∷ ms) letters bytes left within e =
          as_members m ms (by_field (step_stops (field_at f m bytes) (λ v. comma_at ms (past_gap v.1) >>= λ next. fields_at f ms next >>= λ vs. read_ok (v.0 ∷ vs.0) vs.1) (stop left Unexpected) e) (λ start inner. stuck_in_fields ms letters.1 start left inner))
        where
          Deeper : Type 0
          Deeper = (start : List ℕ) → length start ≤ room → fields_at f ms start ≡ Err (stop left Unexpected) → Stuck IsEnd (Members ms) start left

          by_field : Stops (field_at f m bytes) (λ v. comma_at ms (past_gap v.1) >>= λ next. fields_at f ms next >>= λ vs. read_ok (v.0 ∷ vs.0) vs.1) (stop left Unexpected) → Deeper → Stuck IsEnd (MembersParts m ms) bytes left
          by_field (before e) deeper = stuck_in_field m ms letters bytes left within e
          by_field (after v read e) deeper =
              let field = field_sound d f sound m bytes v.0 v.1 read in
              let name_len = ap length field.name ∙ length-append m.name field.equals in
              let gap_out = past_gap_shorter field.equals in
              let sign_len = ap length field.sign in
              let gap_in = past_gap_shorter field.start in
              let less = value_shorter field.value in
              stuck_after (Word m.name) (Past (Sign 61 (Valued m ms))) (word_passes m.name bytes field.equals field.name)
              (stuck_past_gap (Sign 61 (Valued m ms)) (sign_opens 61 (Valued m ms) refl)
              (stuck_after_sign 61 (Valued m ms) (valued_opens m ms) field.start field.sign
              (stuck_after_value (Others ms) (others_ends ms) field.value
              (stuck_in_others ms letters.1 v.1 left (λ start shorter inner. deeper start (omega arith) inner) v.0 e))))

      pub stuck_in_struct : (t : Ty) (k : ℕ) → out-Ty t ≡ ty.Struct k → Sticks d t (suc room) (struct_at f (members_at d k))
      unfolding struct_at
      stuck_in_struct t k is bytes left within e =
          stuck_as (Sign 40 (Members (members_at d k))) (Formed d t) (λ tail ends. ends)
          (λ b r s. (values.Struct s.second.0, spelling.members k s.second.0 s.between is refl s.first s.second.1))
          (λ b r v. let s = shape_at (ty.Struct k) is v.1 in record { between = s.0; first = s.1; second = (s.2, s.3) })
          (by_sign (step_stops (sign_at 40 bytes) (λ inside. fields_at f (members_at d k) inside >>= λ vs. read_ok (values.Struct vs.0) vs.1) (stop left Unexpected) e))
        where
          opens : Opens (Members (members_at d k))
          opens = members_opens (members_at d k) (schema_names d schema k)

          by_sign : Stops (sign_at 40 bytes) (λ inside. fields_at f (members_at d k) inside >>= λ vs. read_ok (values.Struct vs.0) vs.1) (stop left Unexpected) → Stuck IsEnd (Sign 40 (Members (members_at d k))) bytes left
          by_sign (before e) = stuck_before_sign 40 (Members (members_at d k)) opens (members_filled (members_at d k) (schema_names d schema k)) (sign_refused 40 bytes left Unexpected e)
          by_sign (after start read e) =
              let sign = sign_stands 40 bytes start read in
              let len = ap length sign.1 in
              let gap_in = past_gap_shorter sign.0 in
              let start_len = ap length sign.2 in
              stuck_after_sign 40 (Members (members_at d k)) opens sign.0 sign.1
              (subst (λ (b : List ℕ). Stuck IsEnd (Members (members_at d k)) b left) (sym sign.2)
              (stuck_in_fields (members_at d k) (schema_names d schema k) start left (omega arith) (others_stop (fields_at f (members_at d k) start) (λ vs. values.Struct vs) left Unexpected e)))
