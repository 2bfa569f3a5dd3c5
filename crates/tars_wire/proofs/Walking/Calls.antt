-- A call of the cursor, by its fields and by what it asks of the next field: it may be made, and what it leaves.
use Rattle.std.proofs.Common.{◌≡◌, ◌≤◌, ◌<◌, ℕ, ◌+◌, ◌-◌, Bool, IsTrue, IsSome, IsOk, List, ◌∷◌, length, Some, Ok, sym, subst, arith}
use Rattle.std.proofs.Math.ListN.{set}
use Rattle.tars_wire.specs.declared.wire_type.WireType.{WireType}
use Rattle.tars_wire.specs.declared.head.Head.{Head as ReadHead}
use Rattle.tars_wire.specs.declared.level.Level.{Level}
use Rattle.tars_wire.specs.Heads.{MAX_DEPTH, opens}
use Rattle.tars_wire.specs.ScanSteps.{contents_at}
use Rattle.tars_wire.specs.Left.{Remaining, next_of, skipped, entered, size_in, of_next, Left, levels_around, Standing, IsLeft, Stands, NextIs}
use Rattle.tars_wire.specs.PrefixSteps.{head_prefix, entered_prefix, less}
use Rattle.tars_wire.proofs.Walking.Turns.{Reading, needs, leaves, tells, can_pass, has_room, skips, head_needs}
use Rattle.tars_wire.proofs.Walking.Entering.{enter_needs, enter_room, enters, sizes, entered_at, enters_two}

-- what clauses see of a cursor
abbrev pub standing : List ℕ → Level → List Level → ℕ → Standing
standing bytes here outer depth = record { bytes = bytes; room = MAX_DEPTH - depth; levels = here ∷ levels_around outer depth }

-- its fields, seen by clauses as `self`
module _ (bytes : List ℕ) (here : Level) (outer : List Level) (depth : ℕ) {self : Standing} (seen : standing bytes here outer depth ≡ self) where
  -- what clauses say is left is so
  pub spelled : (left : List Remaining) → IsLeft self left → Left (MAX_DEPTH - depth) (here ∷ levels_around outer depth) left bytes
  spelled left x = subst (λ (s : Standing). IsLeft s left) (sym seen) x

  module _ {sort : WireType → Bool} (asked : NextIs self sort) where
    pub head_asked : IsSome (head_prefix bytes)
    head_asked = head_needs (MAX_DEPTH - depth) here (levels_around outer depth) asked.next.left bytes asked.head (spelled asked.next.left asked.next.is_left) asked.next.is_next

  -- a call that reads a value
  module _ {A : Type 0} (r : Reading A) (asked : NextIs self r.sort) (read : ReadHead) (following : List ℕ) (is_read : head_prefix bytes ≡ Some (read, following)) where
    pub value_needs : IsSome (r.prefix read.kind following)
    value_needs = needs r (MAX_DEPTH - depth) here (levels_around outer depth) asked.next.left bytes asked.head (spelled asked.next.left asked.next.is_left) asked.next.is_next asked.is_sort read following is_read

    module _ (x : A) (rest : List ℕ) (got : r.prefix read.kind following ≡ Some (x, rest)) where
      pub value_told : (other : List Remaining) → IsLeft self other → of_next r.inside (next_of other) ≡ Some x
      value_told other y =
          tells r (MAX_DEPTH - depth) here (levels_around outer depth) asked.next.left bytes asked.head (spelled asked.next.left asked.next.is_left) asked.next.is_next asked.is_sort read following is_read x rest got other (spelled other y)

      pub value_left : (level : Level) → level ≡ less here → (other : List Remaining) → IsLeft self other → Left (MAX_DEPTH - depth) (level ∷ levels_around outer depth) (skipped other) rest
      value_left level e other y =
          rw e (leaves r (MAX_DEPTH - depth) here (levels_around outer depth) asked.next.left bytes asked.head (spelled asked.next.left asked.next.is_left) asked.next.is_next asked.is_sort read following is_read x rest got other (spelled other y))

      pub value_stands : (level : Level) → level ≡ less here → depth ≤ MAX_DEPTH → Stands rest level outer depth
      value_stands level e deep = record { deep = deep; left = skipped asked.next.left; spelled = value_left level e asked.next.left asked.next.is_left }

  -- a call that goes past a value
  module _ {sort : WireType → Bool} (asked : NextIs self sort) (read : ReadHead) (following : List ℕ) (is_read : head_prefix bytes ≡ Some (read, following)) where
    pub skip_room : IsTrue (opens read.kind) → 0 < MAX_DEPTH - depth
    skip_room = has_room (MAX_DEPTH - depth) here (levels_around outer depth) asked.next.left bytes asked.head (spelled asked.next.left asked.next.is_left) asked.next.is_next read following is_read

    pub skip_needs : IsOk (contents_at (MAX_DEPTH - depth) read.kind following)
    skip_needs = can_pass (MAX_DEPTH - depth) here (levels_around outer depth) asked.next.left bytes asked.head (spelled asked.next.left asked.next.is_left) asked.next.is_next read following is_read

    module _ (rest : List ℕ) (got : contents_at (MAX_DEPTH - depth) read.kind following ≡ Ok rest) where
      pub skip_left : (level : Level) → level ≡ less here → (other : List Remaining) → IsLeft self other → Left (MAX_DEPTH - depth) (level ∷ levels_around outer depth) (skipped other) rest
      skip_left level e other y =
          rw e (skips (MAX_DEPTH - depth) here (levels_around outer depth) asked.next.left bytes asked.head (spelled asked.next.left asked.next.is_left) asked.next.is_next read following is_read rest got other (spelled other y))

      pub skip_stands : (level : Level) → level ≡ less here → depth ≤ MAX_DEPTH → Stands rest level outer depth
      skip_stands level e deep = record { deep = deep; left = skipped asked.next.left; spelled = skip_left level e asked.next.left asked.next.is_left }

  -- a call that goes into a value
  module _ (asked : NextIs self opens) (read : ReadHead) (following : List ℕ) (is_read : head_prefix bytes ≡ Some (read, following)) where
    pub level_needs : IsSome (entered_prefix read.kind following)
    level_needs = enter_needs (MAX_DEPTH - depth) here (levels_around outer depth) asked.next.left bytes asked.head (spelled asked.next.left asked.next.is_left) asked.next.is_next asked.is_sort read following is_read

    pub level_room : 0 < MAX_DEPTH - depth
    level_room = enter_room (MAX_DEPTH - depth) here (levels_around outer depth) asked.next.left bytes asked.head (spelled asked.next.left asked.next.is_left) asked.next.is_next asked.is_sort read following is_read

    pub two_entered : 2 ≤ length (entered asked.next.left)
    two_entered = enters_two (MAX_DEPTH - depth) (here ∷ levels_around outer depth) asked.next.left bytes asked.head (spelled asked.next.left asked.next.is_left) asked.next.is_next

    module _ (inside : Level) (size : ℕ) (rest : List ℕ) (got : entered_prefix read.kind following ≡ Some (inside, size, rest)) where
      pub size_told : (other : List Remaining) → IsLeft self other → of_next size_in (next_of other) ≡ Some size
      size_told other y =
          sizes (MAX_DEPTH - depth) here (levels_around outer depth) asked.next.left bytes asked.head (spelled asked.next.left asked.next.is_left) asked.next.is_next asked.is_sort read following is_read inside size rest got other (spelled other y)

      pub level_left : (kept : Level) → kept ≡ less here → MAX_DEPTH ≤ length outer → (other : List Remaining) → IsLeft self other → Left (MAX_DEPTH - (depth + 1)) (inside ∷ levels_around (set outer depth kept) (depth + 1)) (entered other) rest
      level_left kept e wide other y =
          let room = level_room in
          entered_at outer depth kept here inside (entered other) rest (omega arith) (omega arith) e
          (enters (MAX_DEPTH - depth) here (levels_around outer depth) asked.next.left bytes asked.head (spelled asked.next.left asked.next.is_left) asked.next.is_next asked.is_sort read following is_read inside size rest got other (spelled other y))

      pub level_stands : (kept : Level) → kept ≡ less here → MAX_DEPTH ≤ length outer → Stands rest inside (set outer depth kept) (depth + 1)
      level_stands kept e wide =
          let room = level_room in
          record { deep = omega arith; left = entered asked.next.left; spelled = level_left kept e wide asked.next.left asked.next.is_left }
