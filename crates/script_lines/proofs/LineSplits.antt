-- Lines: how a text falls into them, and reading one after the other, as a loop does.
use Rattle.std.proofs.Common.{◌≡◌, ℕ, suc, ◌+◌, ◌-◌, ◌<◌, ◌≤◌, false, cond, eqb, not, List, [], ◌∷◌, length, take, drop, Result, Ok, Err, refl, sym, ap, ◌∙◌, arith, inl, inr, length-drop}
use Rattle.std.specs.List.{position_or_len, before_first, after_first, onto_first}
use Rattle.std.proofs.lemmas.Bool.{cond-false, cases_Bool}
use Rattle.std.proofs.lemmas.List.{length-take}
use Rattle.facts.specs.ResultSteps.{◌>>=◌}
use Rattle.script_lines.specs.Lines.{is_feed, TextLine, lines_of, placed}
use Rattle.script_lines.specs.KeptSteps.{Kept, keep_line, at_line, keep_lines}
use Rattle.script_lines.specs.declared.fault.ScriptFault.{ScriptFault}
use Rattle.script_lines.specs.declared.fault.ScriptWhy.{ScriptWhy}
use Rattle.script_lines.specs.declared.fault.ScriptRefusal.{ScriptRefusal}
use Rattle.script_lines.specs.declared.fault.ScriptRefusal.TheVariants.{Fault, Memory}
use Rattle.script_lines.specs.AnswerSteps.{KeepsAt, KeepsAll}

-- the first line, and what stands after its line feed
abbrev pub first_line : List ℕ → List ℕ
first_line bytes = before_first is_feed bytes

abbrev pub after_line : List ℕ → List ℕ
after_line bytes = after_first is_feed bytes

first_line-cons : (c : ℕ) (cs : List ℕ) → eqb c 10 ≡ false → first_line (c ∷ cs) ≡ c ∷ first_line cs
first_line-cons c cs other =
    let n : cond (not (eqb c 10)) (1 + position_or_len is_feed cs) 0 ≡ suc (position_or_len is_feed cs) = rw other (omega arith) in
    ap (λ (n : ℕ). take n (c ∷ cs)) n

after_line-cons : (c : ℕ) (cs : List ℕ) → eqb c 10 ≡ false → after_line (c ∷ cs) ≡ after_line cs
after_line-cons c cs other =
    let n : cond (not (eqb c 10)) (1 + position_or_len is_feed cs) 0 + 1 ≡ suc (position_or_len is_feed cs + 1) = rw other (omega arith) in
    ap (λ (n : ℕ). drop n (c ∷ cs)) n

lines_of_more : (c : ℕ) (cs : List ℕ) → onto_first c (lines_of cs) ≡ (c ∷ first_line cs) ∷ lines_of (after_line cs) → lines_of (c ∷ cs) ≡ first_line (c ∷ cs) ∷ lines_of (after_line (c ∷ cs))
lines_of_more c cs others =
    elim (cases_Bool (eqb c 10)) [
      | inl feed ↦ rw feed refl
      | inr other ↦ cond-false (eqb c 10) _ _ other ∙ others ∙ sym (rw (first_line-cons c cs other, after_line-cons c cs other) refl)
    ]

lines_of_first : (bytes : List ℕ) → 0 < length bytes → lines_of bytes ≡ first_line bytes ∷ lines_of (after_line bytes)
lines_of_first [] h = absurd (omega arith)
lines_of_first (c ∷ []) h = lines_of_more c [] refl
lines_of_first (c ∷ d ∷ ds) h = lines_of_more c (d ∷ ds) (ap (onto_first c) (lines_of_first (d ∷ ds) (omega arith)))

after_length : (bytes : List ℕ) → length (after_line bytes) ≡ length bytes - (position_or_len is_feed bytes + 1)
after_length bytes = length-drop (position_or_len is_feed bytes + 1) bytes

first_length : (bytes : List ℕ) → 0 < length (after_line bytes) → length (first_line bytes) ≡ position_or_len is_feed bytes
first_length bytes some = length-take (position_or_len is_feed bytes) bytes ∙ omega (arith, after_length bytes, some)

pub shorter : (bytes : List ℕ) → 0 < length bytes → length (after_line bytes) < length bytes
shorter bytes some = omega (arith, after_length bytes, some)

placed_after : (at at' : ℕ) (bytes : List ℕ) → (0 < length bytes → at ≡ at') → placed at (lines_of bytes) ≡ placed at' (lines_of bytes)
placed_after at at' [] same = refl
placed_after at at' (b ∷ bytes) same = ap (λ (n : ℕ). placed n (lines_of (b ∷ bytes))) (same (omega arith))

-- where the line after the first one begins
next_at : (at : ℕ) (bytes : List ℕ) → 0 < length (after_line bytes) → at + length (first_line bytes) + 1 ≡ at + (length bytes - length (after_line bytes))
next_at at bytes some = omega (arith, first_length bytes some, after_length bytes, some)

placed_first : (at : ℕ) (bytes : List ℕ) → 0 < length bytes
    → placed at (lines_of bytes) ≡ record { at = at; bytes = first_line bytes } ∷ placed (at + (length bytes - length (after_line bytes))) (lines_of (after_line bytes))
placed_first at bytes some =
    ap (placed at) (lines_of_first bytes some)
    ∙ ap (λ (lines : List TextLine). record { at = at; bytes = first_line bytes } ∷ lines) (placed_after (at + length (first_line bytes) + 1) (at + (length bytes - length (after_line bytes))) (after_line bytes) (next_at at bytes))

keep_first : (k : Kept) (at : ℕ) (bytes : List ℕ) → 0 < length bytes
    → keep_lines k (placed at (lines_of bytes)) ≡ (at_line at (keep_line at (first_line bytes) k) >>= λ k. keep_lines k (placed (at + (length bytes - length (after_line bytes))) (lines_of (after_line bytes))))
unfolding keep_lines
keep_first k at bytes some = ap (keep_lines k) (placed_first at bytes some)

-- ---- a loop over the lines of a text of so many bytes

abbrev pub KeepsOn : ℕ → Kept → List ℕ → Result Kept ScriptFault → Type 0
KeepsOn len k rest total = (length rest ≤ len) × (keep_lines k (placed (len - length rest) (lines_of rest)) ≡ total)

pub goes_on : (len : ℕ) (k next : Kept) (rest : List ℕ) (total : Result Kept ScriptFault) → 0 < length rest → KeepsOn len k rest total
    → keep_line (len - length rest) (first_line rest) k ≡ Ok next → KeepsOn len next (after_line rest) total
goes_on len k next rest total some keeps is =
    let short = shorter rest some in
    let at : len - length (after_line rest) ≡ len - length rest + (length rest - length (after_line rest)) = omega (arith, keeps.0, short) in (
      omega (arith, keeps.0, short),
      ap (λ (n : ℕ). keep_lines next (placed n (lines_of (after_line rest)))) at
          ∙ sym (keep_first k (len - length rest) rest some ∙ ap (λ (r : Result Kept ScriptWhy). at_line (len - length rest) r >>= λ k. keep_lines k (placed (len - length rest + (length rest - length (after_line rest))) (lines_of (after_line rest)))) is)
          ∙ keeps.1,
    )

pub stops : (len : ℕ) (k : Kept) (why : ScriptWhy) (rest : List ℕ) (total : Result Kept ScriptFault) → 0 < length rest → KeepsOn len k rest total
    → keep_line (len - length rest) (first_line rest) k ≡ Err why → total ≡ Err (record { at = len - length rest; why = why })
stops len k why rest total some keeps is =
    sym keeps.1 ∙ keep_first k (len - length rest) rest some
    ∙ ap (λ (r : Result Kept ScriptWhy). at_line (len - length rest) r >>= λ k. keep_lines k (placed (len - length rest + (length rest - length (after_line rest))) (lines_of (after_line rest)))) is

pub is_done : (len : ℕ) (k : Kept) (rest : List ℕ) (total : Result Kept ScriptFault) → length rest ≡ 0 → KeepsOn len k rest total → total ≡ Ok k
unfolding keep_lines
is_done len k [] total none keeps = sym keeps.1
is_done len k (b ∷ rest) total none keeps = absurd (omega arith)

-- a line that is refused is the fault of all
pub is_refused : (at : ℕ) (refusal : ScriptRefusal) (new : Kept) (kept : Result Kept ScriptWhy) (total : Result Kept ScriptFault) → KeepsAt {V = Unit {0}} at (Err refusal) new kept
    → ((why : ScriptWhy) → kept ≡ Err why → total ≡ Err (record { at = at; why = why })) → KeepsAll (Err refusal) total
is_refused at (Fault fault) new kept total given stops = stops fault.why given.0 ∙ ap (λ (n : ℕ). Err (record { at = n; why = fault.why })) (sym given.1)
is_refused at Memory new kept total given stops = tt
