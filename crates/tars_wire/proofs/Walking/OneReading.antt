-- Walking over what is left: a level has one reading, and its next field begins the bytes.
use Rattle.std.proofs.Common.{◌≡◌, ℕ, ◌+◌, List, [], ◌∷◌, refl, sym, ap, ◌∙◌, subst, arith}
use Rattle.wire_words.specs.Tree.{WireFields}
use Rattle.tars_wire.specs.declared.wire_type.WireType.TheVariants as wire
use Rattle.tars_wire.specs.declared.level.Level.{Level}
use Rattle.tars_wire.specs.declared.level.Level.TheVariants as level
use Rattle.tars_wire.specs.Heads.{Head}
use Rattle.tars_wire.specs.Spelled.{Contents, Pairs, Fields}
use Rattle.tars_wire.specs.Left.{Remaining, fields_left, values_left, pairs_left, value_left, LevelLeft, Left}
use Rattle.tars_wire.proofs.Grammar.Heads.{same_head, by_head}
use Rattle.tars_wire.proofs.Grammar.Unique.{Same, same_contents, same_values, same_pairs, same_fields, all_read, at_close}

-- ---- one reading

struct_same : {room from from' : ℕ} {fs fs' : WireFields} {w mid mid' rest rest' : List ℕ} → Fields room from fs w mid → Head 0 wire.StructEnd mid rest → Fields room from' fs' w mid' → Head 0 wire.StructEnd mid' rest' → Same fs fs' rest rest'
struct_same {mid = mid} {mid' = mid'} {rest' = rest'} f h f' h' =
    let s = same_fields f f' (at_close h) (at_close h') in
    let moved : Head 0 wire.StructEnd mid rest' = subst (λ (r : List ℕ). Head 0 wire.StructEnd r rest') (sym s.left) h' in
    record { value = s.value; left = (same_head h moved).2 }

same_half : (n k k' : ℕ) → n ≡ k + k → n ≡ k' + k' → k' ≡ k
same_half n k k' e e' = omega arith

same_odd : (n k k' : ℕ) → n ≡ (k + k) + 1 → n ≡ (k' + k') + 1 → k' ≡ k
same_odd n k k' e e' = omega arith

even_odd : (n k k' : ℕ) → n ≡ k + k → n ≡ (k' + k') + 1 → ⊥
even_odd n k k' e e' = omega arith

level_same : (room : ℕ) (l : Level) (inner inner' : Remaining) (w rest rest' : List ℕ) → LevelLeft room l inner w rest → LevelLeft room l inner' w rest' → Same inner inner' rest rest'
level_same room level.Body (fields_left fs) (fields_left fs') w rest rest' x y =
    let s = same_fields x.1 y.1 all_read all_read in record { value = ap fields_left s.value; left = x.2 ∙ sym y.2 }
level_same room level.Struct (fields_left fs) (fields_left fs') w rest rest' x y =
    let s = struct_same x.2 x.3 y.2 y.3 in record { value = ap fields_left s.value; left = s.left }
level_same room (level.List n) (values_left vs) (values_left vs') w rest rest' x y =
    let s = same_values x y in record { value = ap values_left s.value; left = s.left }
level_same room (level.Map n) (pairs_left ps) (pairs_left ps') w rest rest' x y =
    let moved : Pairs room x.0 ps' w rest' = subst (λ (k : ℕ). Pairs room k ps' w rest') (same_half n x.0 y.0 x.1 y.1) y.2 in
    let s = same_pairs x.2 moved in record { value = ap pairs_left s.value; left = s.left }
level_same room (level.Map n) (pairs_left ps) (value_left v ps') w rest rest' x y = absurd (even_odd n x.0 y.0 x.1 y.4)
level_same room (level.Map n) (value_left v ps) (pairs_left ps') w rest rest' x y = absurd (even_odd n y.0 x.0 y.1 x.4)
level_same room (level.Map n) (value_left v ps) (value_left v' ps') w rest rest' x y =
    let s = same_contents x.6 (by_head x.5 y.5 (λ tag t r. Contents room t v' r y.3) y.6) in
    let by_rest : Pairs room y.0 ps' x.3 rest' = subst (λ (r : List ℕ). Pairs room y.0 ps' r rest') (sym s.left) y.7 in
    let moved : Pairs room x.0 ps' x.3 rest' = subst (λ (k : ℕ). Pairs room k ps' x.3 rest') (same_odd n x.0 y.0 x.4 y.4) by_rest in
    let t = same_pairs x.7 moved in
    record { value = cc (s.value, t.value); left = t.left }
level_same room l inner inner' w rest rest' x y = absurd (assumption (x, y))

pub left_same : (room : ℕ) (levels : List Level) (left left' : List Remaining) (w : List ℕ) → Left room levels left w → Left room levels left' w → left ≡ left'
left_same room [] [] [] w x y = refl
left_same room [] [] (inner ∷ outer) w x y = absurd y
left_same room [] (inner ∷ outer) left' w x y = absurd x
left_same room (l ∷ levels) [] left' w x y = absurd x
left_same room (l ∷ levels) (inner ∷ outer) [] w x y = absurd y
left_same room (l ∷ levels) (inner ∷ outer) (inner' ∷ outer') w x y =
    let s = level_same room l inner inner' w x.0 y.0 x.1 y.1 in
    let t = left_same (room + 1) levels outer outer' x.0 x.2 (subst (λ (r : List ℕ). Left (room + 1) levels outer' r) (sym s.left) y.2) in
    cc (s.value, t)
