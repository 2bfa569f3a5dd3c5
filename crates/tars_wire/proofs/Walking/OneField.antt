-- The next field of a level begins its bytes.
use Rattle.std.proofs.Common.{◌≡◌, ◌<◌, ℕ, suc, ◌+◌, ◌-◌, true, false, eqb, IsSome, List, [], ◌∷◌, length, Option, Some, None, refl, sym, ap, ◌∙◌, subst, arith}
use Rattle.std.proofs.lemmas.Bool.Decides.{nat_tests}
use Rattle.wire_words.specs.Tree.{WireValue, WireValues, WirePairs, WireFields}
use Rattle.tars_wire.specs.declared.wire_type.WireType.{WireType}
use Rattle.tars_wire.specs.declared.wire_type.WireType.TheVariants as wire
use Rattle.tars_wire.specs.declared.head.Head.{Head as ReadHead}
use Rattle.tars_wire.specs.declared.level.Level.{Level}
use Rattle.tars_wire.specs.declared.level.Level.TheVariants as level
use Rattle.tars_wire.specs.Heads.{is_end, Head, short, long}
use Rattle.tars_wire.specs.Spelled.{Contents, Values, no_more_values, one_value, Pairs, no_more_pairs, one_pair, Fields, no_more_fields, one_field}
use Rattle.tars_wire.specs.Left.{Remaining, fields_left, values_left, pairs_left, value_left, next_field, after_next, type_of_value, next_of, head_in, head_left, skipped, LevelLeft, Left}
use Rattle.tars_wire.specs.PrefixSteps.{head_prefix, less, HasMore, is_over}
use Rattle.tars_wire.proofs.Grammar.Types.{value_type, no_end}
use Rattle.tars_wire.proofs.Walking.Prefixes.{head_prefix_is}
use Rattle.tars_wire.proofs.TestLemmas.{false_true}

-- a field that begins the bytes, and what is left after it
pub record OneField (room : ℕ) (l : Level) (inner : Remaining) (w rest : List ℕ) (tag : ℕ) (v : WireValue) : Type 0 where
  pub following : List ℕ
  pub mid : List ℕ
  pub head : Head tag (type_of_value v) w following
  pub contents : Contents room (type_of_value v) v following mid
  pub after : LevelLeft room (less l) inner mid rest
  pub more : HasMore l

-- the end of a level
abbrev pub AtEnd : Level → List ℕ → List ℕ → Type 0
AtEnd level.Body w rest = w ≡ []
AtEnd level.Struct w rest = Head 0 wire.StructEnd w rest
AtEnd (level.List n) w rest = (n ≡ 0) × (w ≡ rest)
AtEnd (level.Map n) w rest = (n ≡ 0) × (w ≡ rest)

abbrev pub OneOf : ℕ → Level → Remaining → List ℕ → List ℕ → Option (ℕ × WireValue) → Type 0
OneOf room l inner w rest None = AtEnd l w rest
OneOf room l inner w rest (Some next) = OneField room l (after_next inner) w rest next.0 next.1

made : {room tag : ℕ} {type : WireType} {l : Level} {v : WireValue} {w following mid rest : List ℕ} (inner : Remaining) → Head tag type w following → Contents room type v following mid → LevelLeft room (less l) inner mid rest → HasMore l → OneField room l inner w rest tag v
made {room} {tag} {type} {l} {v} {w} {following} {mid} {rest} inner head contents after more =
    let e = value_type contents in
    record {
      following = following;
      mid = mid;
      head = subst (λ (t : WireType). Head tag t w following) e head;
      contents = subst (λ (t : WireType). Contents room t v following mid) e contents;
      after = after;
      more = more;
    }

body_one : {room from : ℕ} {fs : WireFields} {w : List ℕ} (rest : List ℕ) → rest ≡ [] → Fields room from fs w [] → OneOf room level.Body (fields_left fs) w rest (next_field (fields_left fs))
unfolding less
body_one rest e no_more_fields = refl
body_one rest e (one_field {tag = tag} {fields = fs} head le contents fields) = made (fields_left fs) head contents (tag + 1, fields, e) tt

struct_one : {room from : ℕ} {fs : WireFields} {w mid rest : List ℕ} → Fields room from fs w mid → Head 0 wire.StructEnd mid rest → OneOf room level.Struct (fields_left fs) w rest (next_field (fields_left fs))
unfolding less
struct_one no_more_fields close = close
struct_one {mid = mid} (one_field {tag = tag} {fields = fs} head le contents fields) close = made (fields_left fs) head contents (tag + 1, mid, fields, close) tt

list_one : {room n : ℕ} {vs : WireValues} {w rest : List ℕ} → Values room n vs w rest → OneOf room (level.List n) (values_left vs) w rest (next_field (values_left vs))
unfolding less
list_one no_more_values = (refl, refl)
list_one {rest = rest} (one_value {room = room} {n = n} {values = vs} {next = next} head contents values) =
    made (values_left vs) head contents (subst (λ (k : ℕ). Values room k vs next rest) (let e : n ≡ suc n - 1 = omega arith in e) values) (let e : 0 < suc n = omega arith in e)

map_one : {room k : ℕ} {ps : WirePairs} {w rest : List ℕ} (n : ℕ) → n ≡ k + k → Pairs room k ps w rest → OneOf room (level.Map n) (pairs_left ps) w rest (next_field (pairs_left ps))
unfolding less
map_one n e no_more_pairs = (omega arith, refl)
map_one n e (one_pair {n = k} {type = type} {pairs = ps} {mid = mid} {following = following} {next = next} key_head key head contents pairs) =
    made (value_left _ ps) key_head key (k, type, following, next, (let f : n - 1 ≡ (k + k) + 1 = omega arith in f), head, contents, pairs) (let f : 0 < n = omega arith in f)

value_one : {room k : ℕ} {type : WireType} {v : WireValue} {ps : WirePairs} {w following next rest : List ℕ} (n : ℕ) → n ≡ (k + k) + 1 → Head 1 type w following → Contents room type v following next → Pairs room k ps next rest → OneField room (level.Map n) (pairs_left ps) w rest 1 v
unfolding less
value_one {k = k} {ps = ps} n e head contents pairs =
    made (pairs_left ps) head contents (k, (let f : n - 1 ≡ k + k = omega arith in f), pairs) (let f : 0 < n = omega arith in f)

pub one_of : (room : ℕ) (l : Level) (inner : Remaining) (w rest : List ℕ) → LevelLeft room l inner w rest → OneOf room l inner w rest (next_field inner)
one_of room level.Body (fields_left fs) w rest x = body_one rest x.2 x.1
one_of room level.Struct (fields_left fs) w rest x = struct_one x.2 x.3
one_of room (level.List n) (values_left vs) w rest x = list_one x
one_of room (level.Map n) (pairs_left ps) w rest x = map_one n x.1 x.2
one_of room (level.Map n) (value_left v ps) w rest x = value_one n x.4 x.5 x.6 x.7
one_of room l inner w rest x = absurd x

-- ---- whether a field is next

abbrev HeadCase : List ℕ → Option (ℕ × WireValue) → Type 0
HeadCase w None = (following : List ℕ) × (head_prefix w ≡ Some (record { tag = 0; kind = wire.StructEnd }, following))
HeadCase w (Some next) = (following : List ℕ) × (head_prefix w ≡ Some (record { tag = next.0; kind = type_of_value next.1 }, following))

over_false : (n : ℕ) → n ≡ 0 → eqb n 0 ≡ false → ⊥
over_false n e f = grind (arith, nat_tests)

no_length : (w : List ℕ) → w ≡ [] → length w ≡ 0
no_length w e = ap length e

head_case : (room : ℕ) (l : Level) (inner : Remaining) (w rest : List ℕ) (o : Option (ℕ × WireValue)) → OneOf room l inner w rest o → is_over l w ≡ false → HeadCase w o
unfolding is_over
head_case room l inner w rest (Some next) x e = (x.following, head_prefix_is x.head)
head_case room level.Body inner w rest None x e = absurd (over_false (length w) (no_length w x) e)
head_case room level.Struct inner w rest None x e = (rest, head_prefix_is x)
head_case room (level.List n) inner w rest None x e = absurd (over_false n x.0 e)
head_case room (level.Map n) inner w rest None x e = absurd (over_false n x.0 e)

over_true : (n : ℕ) → 0 < n → eqb n 0 ≡ true → ⊥
over_true n e f = grind (arith, nat_tests)

head_some : {tag : ℕ} {type : WireType} {w rest : List ℕ} → Head tag type w rest → 0 < length w
head_some (short e b) = omega arith
head_some (long e b) = omega arith

over_none : (room : ℕ) (l : Level) (inner : Remaining) (w rest : List ℕ) (o : Option (ℕ × WireValue)) → OneOf room l inner w rest o → is_over l w ≡ true → o ≡ None
unfolding is_over
over_none room l inner w rest None x e = refl
over_none room level.Body inner w rest (Some next) x e = absurd (over_true (length w) (head_some x.head) e)
over_none room level.Struct inner w rest (Some next) x e = absurd (false_true e)
over_none room (level.List n) inner w rest (Some next) x e = absurd (over_true n x.more e)
over_none room (level.Map n) inner w rest (Some next) x e = absurd (over_true n x.more e)

pub level_is_over : (room : ℕ) (l : Level) (inner : Remaining) (w rest : List ℕ) → LevelLeft room l inner w rest → is_over l w ≡ true → None ≡ head_in (next_field inner)
level_is_over room l inner w rest x e = sym (ap head_in (over_none room l inner w rest (next_field inner) (one_of room l inner w rest x) e))

head_is_some : (w : List ℕ) (o : Option (ℕ × WireValue)) → HeadCase w o → IsSome (head_prefix w)
head_is_some w None h = rw h.1 refl
head_is_some w (Some next) h = rw h.1 refl

pub head_is_there : (room : ℕ) (l : Level) (inner : Remaining) (w rest : List ℕ) → LevelLeft room l inner w rest → is_over l w ≡ false → IsSome (head_prefix w)
head_is_there room l inner w rest x e = head_is_some w (next_field inner) (head_case room l inner w rest (next_field inner) (one_of room l inner w rest x) e)

heads_same : (a b : ReadHead) (x y : List ℕ) → (let s : Option (ReadHead × List ℕ) = Some (a, x) in s) ≡ Some (b, y) → a ≡ b
heads_same a b x y e = ap first_head e
  where
    first_head : Option (ReadHead × List ℕ) → ReadHead
    first_head None = a
    first_head (Some h) = h.0

case_head : (w : List ℕ) (h : ReadHead) (following : List ℕ) (o : Option (ℕ × WireValue)) → HeadCase w o → head_prefix w ≡ Some (h, following) → is_end h.kind ≡ false → Some h ≡ head_in o
case_head w h following None c e f =
    let s = heads_same h (record { tag = 0; kind = wire.StructEnd }) following c.0 (sym e ∙ c.1) in
    absurd (false_true (sym f ∙ ap (λ (x : ReadHead). is_end x.kind) s))
case_head w h following (Some next) c e f = ap (λ (x : ReadHead). Some x) (heads_same h (record { tag = next.0; kind = type_of_value next.1 }) following c.0 (sym e ∙ c.1))

case_none : (w : List ℕ) (h : ReadHead) (following : List ℕ) (o : Option (ℕ × WireValue)) → HeadCase w o → head_prefix w ≡ Some (h, following) → is_end h.kind ≡ true → None ≡ head_in o
case_none w h following None c e f = refl
case_none w h following (Some next) c e f =
    let s = heads_same h (record { tag = next.0; kind = type_of_value next.1 }) following c.0 (sym e ∙ c.1) in
    absurd (false_true (sym (no_end next.1) ∙ (sym (ap (λ (x : ReadHead). is_end x.kind) s) ∙ f)))

pub head_is_next : (room : ℕ) (l : Level) (inner : Remaining) (w rest : List ℕ) (h : ReadHead) (following : List ℕ) → is_over l w ≡ false → head_prefix w ≡ Some (h, following) → is_end h.kind ≡ false → LevelLeft room l inner w rest → Some h ≡ head_in (next_field inner)
head_is_next room l inner w rest h following o e f x = case_head w h following (next_field inner) (head_case room l inner w rest (next_field inner) (one_of room l inner w rest x) o) e f

pub end_is_next : (room : ℕ) (l : Level) (inner : Remaining) (w rest : List ℕ) (h : ReadHead) (following : List ℕ) → is_over l w ≡ false → head_prefix w ≡ Some (h, following) → is_end h.kind ≡ true → LevelLeft room l inner w rest → None ≡ head_in (next_field inner)
end_is_next room l inner w rest h following o e f x = case_none w h following (next_field inner) (head_case room l inner w rest (next_field inner) (one_of room l inner w rest x) o) e f

-- ---- one turn: the next field of the innermost level

pub record Turn (room : ℕ) (l : Level) (levels : List Level) (left : List Remaining) (w : List ℕ) (h : ReadHead) : Type 0 where
  pub v : WireValue
  pub next : next_of left ≡ Some (h.tag, v)
  pub type : h.kind ≡ type_of_value v
  pub following : List ℕ
  pub mid : List ℕ
  pub prefix : head_prefix w ≡ Some (h, following)
  pub contents : Contents room h.kind v following mid
  pub after : Left room (less l ∷ levels) (skipped left) mid
  pub more : HasMore l

turn_of : (room : ℕ) (l : Level) (levels : List Level) (inner : Remaining) (outer : List Remaining) (w rest : List ℕ) (o : Option (ℕ × WireValue)) (h : ReadHead) → next_field inner ≡ o → OneOf room l inner w rest o → Left (room + 1) levels outer rest → head_in o ≡ Some h → Turn room l levels (inner ∷ outer) w h
turn_of room l levels inner outer w rest None h n x y e = absurd (none_some e)
  where
    none_some : None ≡ Some h → ⊥
    none_some e = cc
turn_of room l levels inner outer w rest (Some next) h n x y e =
    let s = same e in
    let made_head : ReadHead = record { tag = next.0; kind = type_of_value next.1 } in
    subst (λ (k : ReadHead). Turn room l levels (inner ∷ outer) w k) s
    (record { v = next.1; next = n; type = refl; following = x.following; mid = x.mid; prefix = head_prefix_is x.head; contents = x.contents; after = (rest, x.after, y); more = x.more })
  where
    same : head_in (Some next) ≡ Some h → (let k : ReadHead = record { tag = next.0; kind = type_of_value next.1 } in k) ≡ h
    same e = ap (λ o. got o) e
      where
        got : Option ReadHead → ReadHead
        got None = h
        got (Some k) = k

pub turn : (room : ℕ) (l : Level) (levels : List Level) (left : List Remaining) (w : List ℕ) (h : ReadHead) → Left room (l ∷ levels) left w → head_left left ≡ Some h → Turn room l levels left w h
turn room l levels [] w h x e = absurd x
turn room l levels (inner ∷ outer) w h x e = turn_of room l levels inner outer w x.0 (next_field inner) h refl (one_of room l inner w x.0 x.1) x.2 e
