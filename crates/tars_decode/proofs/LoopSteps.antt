-- What each loop does in one turn.
use Rattle.std.proofs.Common.{◌≡◌, ◌<◌, ◌≤◌, ℕ, suc, ◌+◌, ◌-◌, Bool, cond, List, [], ◌∷◌, Option, None, Result, Ok, Err, length, get_or, drop, refl, sym, ap, ◌∙◌, arith}
use Rattle.std.specs.List.{insert}
use Rattle.std.proofs.lemmas.List.{drop_more, drop_all}
use Rattle.tars_model.specs.declared.member.Member.{Member}
use Rattle.tars_model.specs.declared.ty.Ty.{Ty}
use Rattle.tars_model.specs.declared.value.Pair.{Pair}
use Rattle.facts.specs.ResultSteps.{◌>>=◌}
use Rattle.tars_wire.specs.declared.wire_type.WireType.{WireType}
use Rattle.tars_decode.specs.declared.halt.Halt.{Halt}
use Rattle.tars_decode.specs.declared.halt.Halt.TheVariants as halt
use Rattle.tars_decode.specs.declared.seeking.Turn.{Turn}
use Rattle.tars_decode.specs.ReadingSteps.{Walk, Inner, Past, field_past, counted_past, end_turn_at, end_at, turn_at, sought, seek_at, element_at, elements_at, entry_at, entries_at, member_at, members_from}
use Rattle.tars_decode.proofs.Loops.{one_and}

pub counted_more : (past : Past) (n : ℕ) (w : List ℕ) → counted_past past (suc n) w ≡ field_past past w >>= counted_past past n
unfolding counted_past
counted_more past n w = refl

pub counted_none : (past : Past) (w : List ℕ) → counted_past past 0 w ≡ Ok w
unfolding counted_past
counted_none past w = refl

abbrev pub same_next : (List ℕ → Result (List ℕ) Halt) → List ℕ → Result (List ℕ) Halt
same_next f w = f w

abbrev pub end_next : (List ℕ → Result (List ℕ) Halt) → Bool × List ℕ → Result (List ℕ) Halt
end_next f t = cond t.0 (Ok t.1) (f t.1)

pub end_more : (past : Past) (n : ℕ) (w : List ℕ) → end_at past (suc n) w ≡ end_turn_at past w >>= end_next (end_at past n)
unfolding end_at
end_more past n w = refl

abbrev pub stops : List ℕ → Result (List ℕ) Halt
stops w = Err halt.Stopped

pub end_none : (past : Past) (w : List ℕ) → end_at past 0 w ≡ stops w
unfolding end_at
end_none past w = refl

abbrev pub seek_next : (List ℕ → Walk (Option WireType)) → Turn × List ℕ → Walk (Option WireType)
seek_next f t = sought f t.0 t.1

pub seek_more : (past : Past) (tag n : ℕ) (w : List ℕ) → seek_at past tag (suc n) w ≡ turn_at past tag w >>= seek_next (seek_at past tag n)
unfolding seek_at
seek_more past tag n w = refl

abbrev pub finds_none : List ℕ → Walk (Option WireType)
finds_none w = Ok (None, w)

pub seek_none : (past : Past) (tag : ℕ) (w : List ℕ) → seek_at past tag 0 w ≡ finds_none w
unfolding seek_at
seek_none past tag w = refl

-- ---- elements, entries, members

pub elements_left : (inner : Inner) (of : Ty) (i count : ℕ) (w : List ℕ) → i < count → elements_at inner of i (count - i) w ≡ one_and (element_at inner of i w) (elements_at inner of (i + 1) (count - (i + 1)))
unfolding elements_at
elements_left inner of i count w lt =
    let k : count - i ≡ suc (count - (i + 1)) = omega arith in
    ap (λ n. elements_at inner of i n w) k

pub no_elements_left : (inner : Inner) (of : Ty) (i count : ℕ) (w : List ℕ) → count ≤ i → elements_at inner of i (count - i) w ≡ Ok ([], w)
unfolding elements_at
no_elements_left inner of i count w le =
    let k : count - i ≡ 0 = omega arith in
    ap (λ n. elements_at inner of i n w) k

-- the entries after one
abbrev pub entry_next : Inner → Ty → Ty → ℕ → ℕ → List Pair → (ℕ × Pair) × List ℕ → Walk (List Pair)
entry_next inner key to i n ps e = entries_at inner key to (i + 1) n (insert ps e.0.0 e.0.1) e.1

pub entries_left : (inner : Inner) (key to : Ty) (i count : ℕ) (ps : List Pair) (w : List ℕ) → i < count → entries_at inner key to i (count - i) ps w ≡ entry_at inner key to i ps w >>= entry_next inner key to i (count - (i + 1)) ps
unfolding entries_at
entries_left inner key to i count ps w lt =
    let k : count - i ≡ suc (count - (i + 1)) = omega arith in
    ap (λ n. entries_at inner key to i n ps w) k

pub no_entries_left : (inner : Inner) (key to : Ty) (i count : ℕ) (ps : List Pair) (w : List ℕ) → count ≤ i → entries_at inner key to i (count - i) ps w ≡ Ok (ps, w)
unfolding entries_at
no_entries_left inner key to i count ps w le =
    let k : count - i ≡ 0 = omega arith in
    ap (λ n. entries_at inner key to i n ps w) k

pub members_left : (inner : Inner) (past : Past) (ms : List Member) (i : ℕ) (m : Member) (w : List ℕ) → i < length ms → m ≡ get_or ms i m → members_from inner past (drop i ms) w ≡ one_and (member_at inner past m w) (members_from inner past (drop (i + 1) ms))
unfolding members_from
members_left inner past ms i m w lt is =
    let k : drop i ms ≡ m ∷ drop (i + 1) ms = drop_more ms i m lt ∙ ap (λ x. x ∷ drop (i + 1) ms) (sym is) in
    ap (λ left. members_from inner past left w) k

pub no_members_left : (inner : Inner) (past : Past) (ms : List Member) (i : ℕ) (w : List ℕ) → length ms ≤ i → members_from inner past (drop i ms) w ≡ Ok ([], w)
unfolding members_from
no_members_left inner past ms i w le =
    let k : drop i ms ≡ [] = drop_all i ms le in
    ap (λ left. members_from inner past left w) k
