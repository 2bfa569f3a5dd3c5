-- Reading one thing after the other, as a loop does: what was read before, and what is still read.
use Rattle.std.proofs.Common.{◌≡◌, ℕ, suc, ◌-◌, ◌+◌, ◌≤◌, ◌<◌, true, false, List, [], ◌∷◌, ◌++◌, length, map, Some, None, Ok, Err, refl, sym, ap, ◌∙◌, append_assoc, arith}
use Rattle.std.proofs.lemmas.List.{append-nil, nil_from_length}
use Rattle.std.specs.List.{insert, IsFirstAndRest}
use Rattle.facts.specs.ResultSteps.{◌>>=◌}
use Rattle.tars_model.specs.Values.{entry_key}
use Rattle.tars_model.specs.declared.member.Member.{Member}
use Rattle.tars_model.specs.declared.ty.Ty.{Ty}
use Rattle.tars_model.specs.declared.value.Value.{Value}
use Rattle.tars_model.specs.declared.value.Pair.{Pair}
use Rattle.value_text.specs.ReadSteps.{Read, Fails, unexpected, byte_at, turn_at, unit_at, unit_then, units_at}
use Rattle.value_text.specs.ValueSteps.{element_then, elements_at, entry_at, entries_then, entries_at, field_at, comma_at, fields_at}
use Rattle.value_text.specs.Spelling.{past_gap}
use Rattle.value_text.specs.declared.cursor.Form.{Form}
use Rattle.value_text.specs.declared.halt.Halt.{Halt}
use Rattle.value_text.proofs.Words.{bind_fails, same_fails}

abbrev pub with_prefix : {A : Type 0} → List A → Read (List A) → Read (List A)
with_prefix prefix read = read >>= λ x. Ok (prefix ++ x.0, x.1)

regroup : {A : Type 0} (prefix : List A) (x : A) (read : Read (List A)) → with_prefix prefix (read >>= λ o. Ok (x ∷ o.0, o.1)) ≡ with_prefix (prefix ++ x ∷ []) read
regroup prefix x (Ok others) = ap (λ xs. Ok (xs, others.1)) (simp append_assoc)
regroup prefix x (Err stop) = refl

pub nothing_before : {A : Type 0} (read : Read (List A)) → with_prefix [] read ≡ read
nothing_before (Ok x) = refl
nothing_before (Err stop) = refl

-- ---- units of texts and blobs

module _ (form : Form) (prefix : List ℕ) (most i : ℕ) (bytes : List ℕ) (total : Read (List ℕ)) (so_far : with_prefix prefix (units_at form (most - i) bytes) ≡ total) where
  one_unit : i < most → units_at form (most - i) bytes ≡ (unit_at form bytes >>= λ u. unit_then u.0 u.1 (units_at form (most - (i + 1)) u.1))
  unfolding units_at
  one_unit lt = let k : most - i ≡ suc (most - (i + 1)) = omega arith in rw k refl

  pub units_go_on : (b : ℕ) (after : List ℕ) → i < most → unit_at form bytes ≡ Ok (Some b, after) → with_prefix (prefix ++ b ∷ []) (units_at form (most - (i + 1)) after) ≡ total
  units_go_on b after lt h = sym (regroup prefix b (units_at form (most - (i + 1)) after)) ∙ sym (rw (one_unit lt, h) refl) ∙ so_far

  pub units_fail : (e : Halt) (left : List ℕ) → i < most → Fails e left (unit_at form bytes) → Fails e left total
  units_fail e left lt h =
      same_fails e left _ total so_far (rw (one_unit lt) (bind_fails e left _ (λ x. Ok (prefix ++ x.0, x.1)) (bind_fails e left (unit_at form bytes) _ h)))

  pub units_end : (after : List ℕ) → i < most → unit_at form bytes ≡ Ok (None, after) → total ≡ Ok (prefix, after)
  units_end after lt h = sym so_far ∙ rw (one_unit lt, h) (ap (λ xs. Ok (xs, after)) (append-nil prefix))

  pub units_run_out : most ≤ i → total ≡ unexpected bytes
  unfolding units_at
  units_run_out past = let k : most - i ≡ 0 = omega arith in sym so_far ∙ rw k refl

-- ---- elements of lists

module _ (f : List ℕ → Read Value) (prefix : List Value) (most i : ℕ) (bytes : List ℕ) (total : Read (List Value)) (so_far : with_prefix prefix (elements_at f (most - i) bytes) ≡ total) where
  one_element : i < most → elements_at f (most - i) bytes ≡ (f bytes >>= λ v. turn_at 93 v.1 >>= λ turn. element_then v.0 turn.0 turn.1 (elements_at f (most - (i + 1)) turn.1))
  unfolding elements_at
  one_element lt = let k : most - i ≡ suc (most - (i + 1)) = omega arith in rw k refl

  pub elements_fail : (e : Halt) (left : List ℕ) → i < most → Fails e left (f bytes) → Fails e left total
  elements_fail e left lt h =
      same_fails e left _ total so_far (rw (one_element lt) (bind_fails e left _ (λ x. Ok (prefix ++ x.0, x.1)) (bind_fails e left (f bytes) _ h)))

  module _ (v : Value) (next : List ℕ) (lt : i < most) (is : f bytes ≡ Ok (v, next)) where
    pub elements_go_on : (after : List ℕ) → turn_at 93 next ≡ Ok (false, after) → with_prefix (prefix ++ v ∷ []) (elements_at f (most - (i + 1)) after) ≡ total
    elements_go_on after h = sym (regroup prefix v (elements_at f (most - (i + 1)) after)) ∙ sym (rw (one_element lt, is, h) refl) ∙ so_far

    pub elements_end : (after : List ℕ) → turn_at 93 next ≡ Ok (true, after) → total ≡ Ok (prefix ++ v ∷ [], after)
    elements_end after h = sym so_far ∙ rw (one_element lt, is, h) refl

    pub elements_stop : (e : Halt) (left : List ℕ) → Fails e left (turn_at 93 next) → Fails e left total
    elements_stop e left h =
        same_fails e left _ total so_far (rw (one_element lt, is) (bind_fails e left _ (λ x. Ok (prefix ++ x.0, x.1)) (bind_fails e left (turn_at 93 next) _ h)))

  pub elements_run_out : most ≤ i → total ≡ unexpected bytes
  unfolding elements_at
  elements_run_out past = let k : most - i ≡ 0 = omega arith in sym so_far ∙ rw k refl

-- ---- entries of maps

module _ (f g : List ℕ → Read Value) (pairs : List Pair) (most i : ℕ) (bytes : List ℕ) (total : Read (List Pair)) (so_far : entries_at f g (most - i) pairs bytes ≡ total) where
  one_entry : i < most → entries_at f g (most - i) pairs bytes ≡ (entry_at f g (map entry_key pairs) bytes >>= λ e. turn_at 125 e.1 >>= λ turn. entries_then turn.0 turn.1 (insert pairs e.0.0 e.0.1) (entries_at f g (most - (i + 1)) (insert pairs e.0.0 e.0.1) turn.1))
  unfolding entries_at
  one_entry lt = let k : most - i ≡ suc (most - (i + 1)) = omega arith in rw k refl

  pub entries_fail : (e : Halt) (left : List ℕ) → i < most → Fails e left (entry_at f g (map entry_key pairs) bytes) → Fails e left total
  entries_fail e left lt h = same_fails e left _ total so_far (rw (one_entry lt) (bind_fails e left (entry_at f g (map entry_key pairs) bytes) _ h))

  module _ (at : ℕ) (p : Pair) (next : List ℕ) (lt : i < most) (is : entry_at f g (map entry_key pairs) bytes ≡ Ok ((at, p), next)) where
    pub entries_go_on : (after : List ℕ) → turn_at 125 next ≡ Ok (false, after) → entries_at f g (most - (i + 1)) (insert pairs at p) after ≡ total
    entries_go_on after h = sym (rw (one_entry lt, is, h) refl) ∙ so_far

    pub entries_end : (after : List ℕ) → turn_at 125 next ≡ Ok (true, after) → total ≡ Ok (insert pairs at p, after)
    entries_end after h = sym so_far ∙ rw (one_entry lt, is, h) refl

    pub entries_stop : (e : Halt) (left : List ℕ) → Fails e left (turn_at 125 next) → Fails e left total
    entries_stop e left h = same_fails e left _ total so_far (rw (one_entry lt, is) (bind_fails e left (turn_at 125 next) _ h))

  pub entries_run_out : most ≤ i → total ≡ unexpected bytes
  unfolding entries_at
  entries_run_out past = let k : most - i ≡ 0 = omega arith in sym so_far ∙ rw k refl

-- ---- members of structs

module _ (f : Ty → List ℕ → Read Value) (prefix : List Value) (m : Member) (ms : List Member) (bytes : List ℕ) (total : Read (List Value)) (so_far : with_prefix prefix (fields_at f (m ∷ ms) bytes) ≡ total) where
  one_field : fields_at f (m ∷ ms) bytes ≡ (field_at f m bytes >>= λ v. comma_at ms (past_gap v.1) >>= λ next. fields_at f ms next >>= λ vs. Ok (v.0 ∷ vs.0, vs.1))
  unfolding fields_at
  one_field = refl

  pub fields_fail : (e : Halt) (left : List ℕ) → Fails e left (field_at f m bytes) → Fails e left total
  fields_fail e left h = same_fails e left _ total so_far (rw one_field (bind_fails e left _ (λ x. Ok (prefix ++ x.0, x.1)) (bind_fails e left (field_at f m bytes) _ h)))

  module _ (v : Value) (next : List ℕ) (is : field_at f m bytes ≡ Ok (v, next)) where
    pub fields_stop : (e : Halt) (left : List ℕ) → Fails e left (comma_at ms (past_gap next)) → Fails e left total
    fields_stop e left h =
        same_fails e left _ total so_far (rw (one_field, is) (bind_fails e left _ (λ x. Ok (prefix ++ x.0, x.1)) (bind_fails e left (comma_at ms (past_gap next)) _ h)))

    pub fields_go_on : (after : List ℕ) → comma_at ms (past_gap next) ≡ Ok after → with_prefix (prefix ++ v ∷ []) (fields_at f ms after) ≡ total
    fields_go_on after h = sym (regroup prefix v (fields_at f ms after)) ∙ sym (rw (one_field, is, h) refl) ∙ so_far

module _ (f : Ty → List ℕ → Read Value) (prefix : List Value) (bytes : List ℕ) (total : Read (List Value)) (so_far : with_prefix prefix (fields_at f [] bytes) ≡ total) where
  pub fields_end : (after : List ℕ) → byte_at 41 bytes ≡ Ok after → total ≡ Ok (prefix, after)
  unfolding fields_at
  fields_end after h = sym so_far ∙ rw h (ap (λ xs. Ok (xs, after)) (append-nil prefix))

  pub fields_end_fails : (e : Halt) (left : List ℕ) → Fails e left (byte_at 41 bytes) → Fails e left total
  unfolding fields_at
  fields_end_fails e left h = same_fails e left _ total so_far (bind_fails e left _ (λ x. Ok (prefix ++ x.0, x.1)) (bind_fails e left (byte_at 41 bytes) _ h))

module _ (f : Ty → List ℕ → Read Value) (prefix : List Value) (left : List Member) (bytes : List ℕ) (total : Read (List Value)) where
  pub with_first : (m : Member) (ms : List Member) → IsFirstAndRest left m ms → with_prefix prefix (fields_at f left bytes) ≡ total → with_prefix prefix (fields_at f (m ∷ ms) bytes) ≡ total
  with_first m ms is so_far = ap (λ (l : List Member). with_prefix prefix (fields_at f l bytes)) (sym is.0) ∙ so_far

  pub with_none : length left ≡ 0 → with_prefix prefix (fields_at f left bytes) ≡ total → with_prefix prefix (fields_at f [] bytes) ≡ total
  with_none none so_far = ap (λ (l : List Member). with_prefix prefix (fields_at f l bytes)) (sym (nil_from_length left none)) ∙ so_far
