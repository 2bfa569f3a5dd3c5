-- Into a list, a map or a struct, and out of it.
use Rattle.std.proofs.Common.{[], ◌≡◌, ◌<◌, ◌≤◌, get_or, length, zero, ℕ, suc, ◌+◌, ◌-◌, ◌*◌, true, IsSome, List, ◌∷◌, Option, Some, None, refl, sym, ap, ◌∙◌, subst, arith}
use Rattle.std.proofs.Math.ListN.{set}
use Rattle.std.proofs.lemmas.List.{get_or-set_same, get_or-set_other}
use Rattle.wire_words.specs.Tree.{WireValue, WireValues, WirePairs}
use Rattle.wire_words.specs.Spelling.{count_values, count_pairs}
use Rattle.tars_wire.specs.declared.wire_type.WireType.{WireType}
use Rattle.tars_wire.specs.declared.head.Head.{Head as ReadHead}
use Rattle.tars_wire.specs.declared.level.Level.{Level}
use Rattle.tars_wire.specs.declared.level.Level.TheVariants as level
use Rattle.tars_wire.specs.Heads.{MAX_DEPTH, opens}
use Rattle.tars_wire.specs.Spelled.{Contents, is_whole, is_float, is_double, is_string1, is_string4, is_simple_list, is_list, is_map, is_struct, Values, no_more_values, one_value, Pairs, no_more_pairs, one_pair}
use Rattle.tars_wire.specs.Left.{AtLevel, left_over, Remaining, size_in, all_inside, next_of, head_left, skipped, entered, inside_next, of_next, LevelLeft, Left, levels_around}
use Rattle.tars_wire.specs.PrefixSteps.{head_prefix, entered_prefix, less}
use Rattle.tars_wire.proofs.Walking.Prefixes.{size_prefix_is}
use Rattle.tars_wire.proofs.Grammar.Types.{number_type, of_no_number}
use Rattle.tars_wire.proofs.Walking.OneReading.{left_same}
use Rattle.tars_wire.proofs.Walking.OneField.{Turn, turn}
use Rattle.tars_wire.proofs.Walking.Turns.{found_first, found_second}
use Rattle.tars_wire.proofs.TestLemmas.{false_true}

-- the size of a list or a map is the number of its values or pairs
pub values_count : {room n : ℕ} {vs : WireValues} {w rest : List ℕ} → Values room n vs w rest → count_values vs ≡ n
values_count no_more_values = refl
values_count (one_value {n = n} {values = vs} h c more) = let e = values_count more in let f : 1 + count_values vs ≡ suc n = omega arith in f

pub pairs_count : {room n : ℕ} {ps : WirePairs} {w rest : List ℕ} → Pairs room n ps w rest → count_pairs ps ≡ n
pairs_count no_more_pairs = refl
pairs_count (one_pair {n = n} {pairs = ps} a b h c more) = let e = pairs_count more in let f : 1 + count_pairs ps ≡ suc n = omega arith in f

-- what is open after the head
pub record Opens (room : ℕ) (v : WireValue) (type : WireType) (w rest : List ℕ) : Type 0 where
  pub here : Level
  pub size : ℕ
  pub mid : List ℕ
  pub prefix : entered_prefix type w ≡ Some (here, size, mid)
  pub inside : LevelLeft (room - 1) here (all_inside v) mid rest
  pub is_size : size_in v ≡ Some size
  pub some : 0 < room

pub opens_of : {room : ℕ} {type : WireType} {v : WireValue} {w rest : List ℕ} → Contents room type v w rest → opens type ≡ true → Opens room v type w rest
unfolding entered_prefix
opens_of (is_list {n = n} {values = vs} {following = following} some size values) e =
    record { here = level.List n; size = n; mid = following; prefix = rw (size_prefix_is size) refl; inside = values; is_size = ap (λ k. Some k) (values_count values); some = some }
opens_of (is_map {n = n} {pairs = ps} {following = following} some size pairs) e =
    record { here = level.Map (2 * n); size = n; mid = following; prefix = rw (size_prefix_is size) refl; inside = (n, (let f : 2 * n ≡ n + n = omega arith in f), pairs); is_size = ap (λ k. Some k) (pairs_count pairs); some = some }
opens_of (is_struct {input = w} {following = following} some fields head) e =
    record { here = level.Struct; size = 0; mid = w; prefix = refl; inside = (0, following, fields, head); is_size = refl; some = some }
opens_of (is_whole {number = n} number) e = absurd (false_true (sym (ap opens (number_type number) ∙ of_no_number opens (refl, refl, refl, refl, refl) n) ∙ e))
opens_of (is_float b f) e = absurd (false_true e)
opens_of (is_double b f) e = absurd (false_true e)
opens_of (is_string1 g b f) e = absurd (false_true e)
opens_of (is_string4 s g b f) e = absurd (false_true e)
opens_of (is_simple_list h s b f) e = absurd (false_true e)

-- the parts of a triple that was found
found_level : (a b : Level) (m n : ℕ) (x y : List ℕ) → (let s : Option (Level × ℕ × List ℕ) = Some (a, m, x) in s) ≡ Some (b, n, y) → (a ≡ b) × (m ≡ n) × (x ≡ y)
found_level a b m n x y e = (ap first e, ap second e, ap third e)
  where
    first : Option (Level × ℕ × List ℕ) → Level
    first None = a
    first (Some h) = h.0

    second : Option (Level × ℕ × List ℕ) → ℕ
    second None = m
    second (Some h) = h.1

    third : Option (Level × ℕ × List ℕ) → List ℕ
    third None = x
    third (Some h) = h.2

module _ (room : ℕ) (l : Level) (levels : List Level) (left : List Remaining) (w : List ℕ) (h : ReadHead)
    (spelled : Left room (l ∷ levels) left w) (is_next : head_left left ≡ Some h) (is_sort : opens h.kind ≡ true)
    (read : ReadHead) (following : List ℕ) (is_read : head_prefix w ≡ Some (read, following)) where
  the_turn : Turn room l levels left w h
  the_turn = turn room l levels left w h spelled is_next

  the_opens : Opens room the_turn.v h.kind the_turn.following the_turn.mid
  the_opens = opens_of the_turn.contents is_sort

  the_prefix : entered_prefix read.kind following ≡ Some (the_opens.here, the_opens.size, the_opens.mid)
  the_prefix =
      ap (λ (k : ReadHead). entered_prefix k.kind following) (found_first read h following the_turn.following (sym is_read ∙ the_turn.prefix))
      ∙ (ap (entered_prefix h.kind) (found_second read h following the_turn.following (sym is_read ∙ the_turn.prefix)) ∙ the_opens.prefix)

  pub enter_needs : IsSome (entered_prefix read.kind following)
  enter_needs = rw the_prefix refl

  pub enter_room : 0 < room
  enter_room = the_opens.some

  module _ (here : Level) (size : ℕ) (rest : List ℕ) (got : entered_prefix read.kind following ≡ Some (here, size, rest)) where
    same_parts : (the_opens.here ≡ here) × (the_opens.size ≡ size) × (the_opens.mid ≡ rest)
    same_parts = found_level the_opens.here here the_opens.size size the_opens.mid rest (sym the_prefix ∙ got)

    in_first : LevelLeft (room - 1) here (inside_next (next_of left)) rest the_turn.mid
    in_first =
        let a : LevelLeft (room - 1) here (all_inside the_turn.v) the_opens.mid the_turn.mid = subst (λ (k : Level). LevelLeft (room - 1) k (all_inside the_turn.v) the_opens.mid the_turn.mid) same_parts.0 the_opens.inside in
        let b : LevelLeft (room - 1) here (all_inside the_turn.v) rest the_turn.mid = subst (λ (r : List ℕ). LevelLeft (room - 1) here (all_inside the_turn.v) r the_turn.mid) same_parts.2 a in
        subst (λ (r : Remaining). LevelLeft (room - 1) here r rest the_turn.mid) (sym (ap inside_next the_turn.next)) b

    around : Left (room - 1 + 1) (less l ∷ levels) (skipped left) the_turn.mid
    around =
        let some = the_opens.some in
        subst (λ (k : ℕ). Left k (less l ∷ levels) (skipped left) the_turn.mid) (let e : room ≡ room - 1 + 1 = omega arith in e) the_turn.after

    inside_here : Left (room - 1) (here ∷ less l ∷ levels) (entered left) rest
    inside_here = (the_turn.mid, in_first, around)

    pub enters : (other : List Remaining) → Left room (l ∷ levels) other w → Left (room - 1) (here ∷ less l ∷ levels) (entered other) rest
    enters other y = subst (λ (o : List Remaining). Left (room - 1) (here ∷ less l ∷ levels) (entered o) rest) (left_same room (l ∷ levels) left other w spelled y) inside_here

    size_here : of_next size_in (next_of left) ≡ Some size
    size_here = ap (of_next size_in) the_turn.next ∙ (the_opens.is_size ∙ ap (λ k. Some k) same_parts.1)

    pub sizes : (other : List Remaining) → Left room (l ∷ levels) other w → of_next size_in (next_of other) ≡ Some size
    sizes other y = subst (λ (o : List Remaining). of_next size_in (next_of o) ≡ Some size) (left_same room (l ∷ levels) left other w spelled y) size_here

-- ---- the levels around

around_set : (outer : List Level) (d i : ℕ) (x : Level) → d ≤ i → levels_around (set outer i x) d ≡ levels_around outer d
around_set outer zero i x le = refl
around_set outer (suc d) i x le =
    let e : get_or (set outer i x) d level.Body ≡ get_or outer d level.Body = get_or-set_other outer i d x level.Body (λ e. omega arith) in
    let f = around_set outer d i x (omega arith) in
    cc (e, f)

pub around_more : (outer : List Level) (d : ℕ) (x : Level) → d < length outer → levels_around (set outer d x) (d + 1) ≡ x ∷ levels_around outer d
around_more outer d x lt =
    let k : d + 1 ≡ suc d = omega arith in
    let e : get_or (set outer d x) d level.Body ≡ x = get_or-set_same outer d x level.Body lt in
    let f = around_set outer d d x (omega arith) in
    ap (levels_around (set outer d x)) k ∙ cc (e, f)

pub around_less : (outer : List Level) (d : ℕ) → 0 < d → levels_around outer d ≡ get_or outer (d - 1) level.Body ∷ levels_around outer (d - 1)
around_less outer d some =
    let k : d ≡ suc (d - 1) = omega arith in
    ap (levels_around outer) k

-- ---- out of a level

-- what was entered is inside something
module _ (room : ℕ) (l : Level) (levels : List Level) (left : List Remaining) (w : List ℕ) (spelled : Left room (l ∷ levels) left w) (two : 2 ≤ length left) where
  pub some_around : 0 < length levels
  some_around = go levels left spelled two
    where
      go : (levels : List Level) (left : List Remaining) → Left room (l ∷ levels) left w → 2 ≤ length left → 0 < length levels
      go levels [] x two = absurd x
      go [] (inner ∷ []) x two = absurd (omega arith)
      go [] (inner ∷ more ∷ outer) x two = absurd x.2
      go (k ∷ levels) (inner ∷ outer) x two = omega arith

  pub at_level : AtLevel room l w
  at_level = go left spelled
    where
      go : (left : List Remaining) → Left room (l ∷ levels) left w → AtLevel room l w
      go [] x = absurd x
      go (inner ∷ outer) x = record { inner = inner; rest = x.0; is_left = x.1 }

  pub outer_left : (rest : List ℕ) → ((inner : Remaining) (after : List ℕ) → LevelLeft room l inner w after → rest ≡ after) → Left (room + 1) levels (left_over left) rest
  outer_left rest ends = go left spelled
    where
      go : (left : List Remaining) → Left room (l ∷ levels) left w → Left (room + 1) levels (left_over left) rest
      go [] x = absurd x
      go (inner ∷ outer) x = subst (λ (r : List ℕ). Left (room + 1) levels outer r) (sym (ends inner x.0 x.1)) x.2

pub around_length : (outer : List Level) (d : ℕ) → length (levels_around outer d) ≡ d
around_length outer zero = refl
around_length outer (suc d) = let e = around_length outer d in omega arith

-- the fields of the cursor after entering, and after leaving
pub entered_at : (outer : List Level) (depth : ℕ) (kept l here : Level) (left : List Remaining) (rest : List ℕ) → depth < length outer → depth < MAX_DEPTH → kept ≡ less l → Left (MAX_DEPTH - depth - 1) (here ∷ less l ∷ levels_around outer depth) left rest → Left (MAX_DEPTH - (depth + 1)) (here ∷ levels_around (set outer depth kept) (depth + 1)) left rest
entered_at outer depth kept l here left rest lt deep e x =
    let f : levels_around (set outer depth kept) (depth + 1) ≡ less l ∷ levels_around outer depth = around_more outer depth kept lt ∙ ap (λ (k : Level). k ∷ levels_around outer depth) e in
    let g : MAX_DEPTH - depth - 1 ≡ MAX_DEPTH - (depth + 1) = omega arith in
    subst (λ (n : ℕ). Left n (here ∷ levels_around (set outer depth kept) (depth + 1)) left rest) g
    (subst (λ (ls : List Level). Left (MAX_DEPTH - depth - 1) (here ∷ ls) left rest) (sym f) x)

pub left_at : (outer : List Level) (depth : ℕ) (left : List Remaining) (rest : List ℕ) → 0 < depth → depth ≤ MAX_DEPTH → Left (MAX_DEPTH - depth + 1) (levels_around outer depth) left rest → Left (MAX_DEPTH - (depth - 1)) (get_or outer (depth - 1) level.Body ∷ levels_around outer (depth - 1)) left rest
left_at outer depth left rest some deep x =
    let g : MAX_DEPTH - depth + 1 ≡ MAX_DEPTH - (depth - 1) = omega arith in
    subst (λ (n : ℕ). Left n (get_or outer (depth - 1) level.Body ∷ levels_around outer (depth - 1)) left rest) g
    (subst (λ (ls : List Level). Left (MAX_DEPTH - depth + 1) ls left rest) (around_less outer depth some) x)

pub two_left : (room : ℕ) (levels : List Level) (left other : List Remaining) (w : List ℕ) → Left room levels left w → Left room levels other w → 2 ≤ length left → 2 ≤ length other
two_left room levels left other w x y two = subst (λ (o : List Remaining). 2 ≤ length o) (left_same room levels left other w x y) two

-- what was entered can be left
pub enters_two : (room : ℕ) (levels : List Level) (left : List Remaining) (w : List ℕ) (h : ReadHead) → Left room levels left w → head_left left ≡ Some h → 2 ≤ length (entered left)
enters_two room levels [] w h x e = absurd (none_some e)
  where
    none_some : None ≡ Some h → ⊥
    none_some e = cc
enters_two room levels (inner ∷ outer) w h x e = omega arith
