-- To the end of a level.
use Rattle.std.proofs.Common.{is_some, ◌≡◌, ◌<◌, ℕ, false, IsTrue, IsSome, IsOk, List, [], length, Option, Some, None, Result, Ok, refl, sym, ap, ◌∙◌, subst, arith}
use Rattle.wire_words.specs.Tree.{WireValue}
use Rattle.tars_wire.specs.declared.wire_type.WireType.{WireType}
use Rattle.tars_wire.specs.declared.wire_type.WireType.TheVariants as wire
use Rattle.tars_wire.specs.declared.head.Head.{Head as ReadHead}
use Rattle.tars_wire.specs.declared.level.Level.{Level}
use Rattle.tars_wire.specs.declared.level.Level.TheVariants as level
use Rattle.tars_wire.specs.declared.stop.Stop.{Stop}
use Rattle.tars_wire.specs.Heads.{opens, Head, short, long}
use Rattle.tars_wire.specs.ScanSteps.{contents_at}
use Rattle.tars_wire.specs.Left.{Remaining, fields_left, values_left, pairs_left, value_left, next_field, after_next, type_of_value, head_in, LevelLeft}
use Rattle.tars_wire.specs.PrefixSteps.{head_prefix, less, HasMore}
use Rattle.tars_wire.specs.Spelled.{ALL}
use Rattle.tars_wire.proofs.Machine.Forms.{room_left}
use Rattle.tars_wire.proofs.Walking.Prefixes.{head_prefix_is, contents_complete}
use Rattle.tars_wire.proofs.Scanning.Remainders.{contents_not_longer}
use Rattle.tars_wire.proofs.Walking.OneField.{OneField, AtEnd, OneOf, one_of}
use Rattle.tars_wire.proofs.Walking.Turns.{found_first, found_second}
use Rattle.tars_wire.proofs.TestLemmas.{false_true, room_for}

shorter : {tag : ℕ} {type : WireType} {w rest : List ℕ} → Head tag type w rest → length rest < length w
shorter (short e b) = omega arith
shorter (long e b) = omega arith

-- the next field of a level, where there is one
some_next : (room : ℕ) (l : Level) (inner : Remaining) (w after : List ℕ) (o : Option (ℕ × WireValue)) → OneOf room l (inner) w after o → IsSome (head_in o) → (next : ℕ × WireValue) × OneField room l (after_next inner) w after next.0 next.1
some_next room l inner w after (Some next) x s = (next, x)
some_next room l inner w after None x s = absurd (false_true s)

module _ (room : ℕ) (l : Level) (inner : Remaining) (w after : List ℕ) (x : LevelLeft room l inner w after) (some : IsSome (head_in (next_field inner))) where
  the_next : (next : ℕ × WireValue) × OneField room l (after_next inner) w after next.0 next.1
  the_next = some_next room l inner w after (next_field inner) (one_of room l inner w after x) some

  pub next_prefix : IsSome (head_prefix w)
  next_prefix = rw (head_prefix_is the_next.1.head) refl

  pub next_more : HasMore l
  next_more = the_next.1.more

  module _ (read : ReadHead) (following : List ℕ) (is_read : head_prefix w ≡ Some (read, following)) where
    the_type : read.kind ≡ type_of_value the_next.0.1
    the_type = ap (λ (k : ReadHead). k.kind) (found_first read (record { tag = the_next.0.0; kind = type_of_value the_next.0.1 }) following the_next.1.following (sym is_read ∙ head_prefix_is the_next.1.head))

    the_rest : following ≡ the_next.1.following
    the_rest = found_second read (record { tag = the_next.0.0; kind = type_of_value the_next.0.1 }) following the_next.1.following (sym is_read ∙ head_prefix_is the_next.1.head)

    passes : contents_at room read.kind following ≡ Ok the_next.1.mid
    passes = ap (λ t. contents_at room t following) the_type ∙ (ap (contents_at room (type_of_value the_next.0.1)) the_rest ∙ contents_complete the_next.1.contents)

    pub next_passes : IsOk (contents_at room read.kind following)
    next_passes = rw passes refl

    pub next_room : IsTrue (opens read.kind) → 0 < room
    next_room t = room_for (opens (type_of_value the_next.0.1)) room (room_left ALL the_next.1.contents) (sym (ap opens the_type) ∙ t)

    module _ (rest : List ℕ) (got : contents_at room read.kind following ≡ Ok rest) where
      mid_is : the_next.1.mid ≡ rest
      mid_is = ok_same the_next.1.mid rest (sym passes ∙ got)
        where
          ok_same : (a b : List ℕ) → (let s : Result (List ℕ) Stop = Ok a in s) ≡ Ok b → a ≡ b
          ok_same a b e = cc

      pub next_left : LevelLeft room (less l) (after_next inner) rest after
      next_left = subst (λ (r : List ℕ). LevelLeft room (less l) (after_next inner) r after) mid_is the_next.1.after

      pub next_shorter : length rest < length w
      next_shorter =
          let a = shorter the_next.1.head in
          let b = contents_not_longer room read.kind following rest got in
          let c : length following ≡ length the_next.1.following = ap length the_rest in
          omega arith

-- nothing is next: the end
none_next : (room : ℕ) (l : Level) (inner : Remaining) (w after : List ℕ) (o : Option (ℕ × WireValue)) → OneOf room l inner w after o → is_some (head_in o) ≡ false → AtEnd l w after
none_next room l inner w after None x e = x
none_next room l inner w after (Some next) x e = absurd (false_true (sym e))

at_end : (room : ℕ) (l : Level) (inner : Remaining) (w after : List ℕ) → LevelLeft room l inner w after → is_some (head_in (next_field inner)) ≡ false → AtEnd l w after
at_end room l inner w after x e = none_next room l inner w after (next_field inner) (one_of room l inner w after x) e

pub end_prefix : (room : ℕ) (l : Level) (inner : Remaining) (w after : List ℕ) → LevelLeft room l inner w after → is_some (head_in (next_field inner)) ≡ false → l ≡ level.Struct → IsSome (head_prefix w)
end_prefix room l inner w after x e f =
    let close : Head 0 wire.StructEnd w after = subst (λ (k : Level). AtEnd k w after) f (at_end room l inner w after x e) in
    rw (head_prefix_is close) refl

pub end_struct : (room : ℕ) (l : Level) (inner : Remaining) (w after : List ℕ) (read : ReadHead) (following : List ℕ) → LevelLeft room l inner w after → is_some (head_in (next_field inner)) ≡ false → l ≡ level.Struct → head_prefix w ≡ Some (read, following) → following ≡ after
end_struct room l inner w after read following x e f is_read =
    let close : Head 0 wire.StructEnd w after = subst (λ (k : Level). AtEnd k w after) f (at_end room l inner w after x e) in
    found_second read (record { tag = 0; kind = wire.StructEnd }) following after (sym is_read ∙ head_prefix_is close)

body_after : (room : ℕ) (inner : Remaining) (w after : List ℕ) → LevelLeft room level.Body inner w after → after ≡ []
body_after room (fields_left fs) w after x = x.2
body_after room (values_left vs) w after x = absurd x
body_after room (pairs_left ps) w after x = absurd x
body_after room (value_left v ps) w after x = absurd x

pub end_other : (room : ℕ) (l : Level) (inner : Remaining) (w after : List ℕ) → LevelLeft room l inner w after → is_some (head_in (next_field inner)) ≡ false → (l ≡ level.Struct → ⊥) → w ≡ after
end_other room level.Body inner w after x e f = at_end room level.Body inner w after x e ∙ sym (body_after room inner w after x)
end_other room level.Struct inner w after x e f = absurd (f refl)
end_other room (level.List n) inner w after x e f = (at_end room (level.List n) inner w after x e).1
end_other room (level.Map n) inner w after x e f = (at_end room (level.Map n) inner w after x e).1
