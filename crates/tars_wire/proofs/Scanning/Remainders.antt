-- What holds of what was read: how much is left, and that no list, map or struct is too deep.
use Rattle.std.proofs.Common.{◌≡◌, ◌<◌, ◌≤◌, ℕ, ◌/◌, ◌%◌, Bool, true, false, cond, eqb, IsTrue, List, [], ◌∷◌, length, Option, Some, None, Result, Ok, Err, refl, ◌∙◌, subst, arith}
use Rattle.tars_wire.specs.declared.wire_type.WireType.{WireType}
use Rattle.tars_wire.specs.declared.wire_fault.WireWhy.{WireWhy}
use Rattle.tars_wire.specs.declared.wire_fault.WireWhy.TheVariants as why
use Rattle.tars_wire.specs.declared.stop.Stop.{Stop}
use Rattle.tars_wire.specs.declared.head_context.HeadContext.{HeadContext}
use Rattle.tars_wire.specs.declared.head_context.HeadContext.TheVariants as heads
use Rattle.tars_wire.specs.declared.head.Head.{Head}
use Rattle.tars_wire.specs.declared.head.FirstByte.{FirstByte}
use Rattle.tars_wire.specs.declared.head.FirstByte.TheVariants as first
use Rattle.tars_wire.specs.Heads.{type_of, opens}
use Rattle.tars_wire.specs.Spelled.{ALL}
use Rattle.tars_wire.specs.MachineSteps.{takes, tag_fault, is_deep, unless, short_fault, long_fault, judged_byte, typed_byte, first_byte, Inside, parts, tag_of, part_step, tag_step, contents}
use Rattle.tars_wire.specs.ScanSteps.{stops_at, judged_tag, tag_at, headed, head_at, reading, contents_at}
use Rattle.tars_wire.proofs.Machine.FirstBytes.{short_fits, long_fits}
use Rattle.facts.proofs.ResultLaws.{bind_ok}
use Rattle.tars_wire.proofs.Scanning.Readings.{reading_contents}
use Rattle.tars_wire.proofs.TestLemmas.{room_for}

-- no list, map or struct too deep is let in
abbrev Shallow : HeadContext → Result FirstByte WireWhy → Type 0
Shallow context (Ok (first.Whole head)) = is_deep ALL context head.kind ≡ false
Shallow context (Ok (first.Long type)) = is_deep ALL context type ≡ false
Shallow context (Err fault) = Unit {0}

shallow_long : (context : HeadContext) (type : WireType) (fault : Option WireWhy) → long_fault ALL context type ≡ fault → Shallow context (unless fault (first.Long type))
shallow_long context type None e = (long_fits ALL context type e).1
shallow_long context type (Some fault) e = tt

shallow_short : (context : HeadContext) (type : WireType) (tag : ℕ) (fault : Option WireWhy) → short_fault ALL context type tag ≡ fault → Shallow context (unless fault (first.Whole (record { tag = tag; kind = type })))
shallow_short context type tag None e = (short_fits ALL context type tag e).1
shallow_short context type tag (Some fault) e = tt

shallow_judged : (context : HeadContext) (type : WireType) (high : ℕ) → Shallow context (judged_byte ALL context type high)
unfolding judged_byte
shallow_judged context type high = by_type (takes context type)
  where
    by_form : (b : Bool) → Shallow context (cond b (unless (long_fault ALL context type) (first.Long type)) (unless (short_fault ALL context type high) (first.Whole (record { tag = high; kind = type }))))
    by_form true = shallow_long context type (long_fault ALL context type) refl
    by_form false = shallow_short context type high (short_fault ALL context type high) refl

    by_type : (b : Bool) → Shallow context (cond b (cond (eqb high 15) (unless (long_fault ALL context type) (first.Long type)) (unless (short_fault ALL context type high) (first.Whole (record { tag = high; kind = type })))) (Err why.BadType))
    by_type true = by_form (eqb high 15)
    by_type false = tt

shallow : (context : HeadContext) (byte : ℕ) → Shallow context (first_byte ALL context byte)
unfolding first_byte
shallow context byte = go (type_of (byte % 16))
  where
    go : (o : Option WireType) → Shallow context (typed_byte ALL context o (byte / 16))
    go None = tt
    go (Some type) = shallow_judged context type (byte / 16)

-- what is left of a head
abbrev HeadFacts : HeadContext → List ℕ → Result (Head × List ℕ) Stop → Type 0
HeadFacts context w (Ok x) = (is_deep ALL context x.0.kind ≡ false) × (length x.1 < length w)
HeadFacts context w (Err stop) = stop.left ≤ length w

tag_facts : (context : HeadContext) (type : WireType) (byte : ℕ) (rest : List ℕ) → is_deep ALL context type ≡ false → HeadFacts context (byte ∷ rest) (tag_at context type rest)
unfolding tag_at
tag_facts context type byte [] deep = omega arith
tag_facts context type byte (tag ∷ rest) deep = go (tag_fault ALL context type tag)
  where
    go : (f : Option WireWhy) → HeadFacts context (byte ∷ tag ∷ rest) (judged_tag f type tag rest)
    go None = (deep, omega arith)
    go (Some fault) = omega arith

headed_facts : (context : HeadContext) (byte : ℕ) (rest : List ℕ) (r : Result FirstByte WireWhy) → Shallow context r → HeadFacts context (byte ∷ rest) (headed context r byte rest)
headed_facts context byte rest (Ok (first.Whole head)) s = (s, omega arith)
headed_facts context byte rest (Ok (first.Long type)) s = tag_facts context type byte rest s
headed_facts context byte rest (Err fault) s = omega arith

pub head_facts : (context : HeadContext) (w : List ℕ) → HeadFacts context w (head_at context w)
unfolding head_at
head_facts context [] = omega arith
head_facts context (byte ∷ rest) = headed_facts context byte rest (first_byte ALL context byte) (shallow context byte)

-- what is left of what was awaited
abbrev pub Facts : List ℕ → Result (List ℕ) Stop → Type 0
Facts w (Ok v) = length v ≤ length w
Facts w (Err stop) = stop.left ≤ length w

one_longer : (byte : ℕ) (rest : List ℕ) (r : Result (List ℕ) Stop) → Facts rest r → Facts (byte ∷ rest) r
one_longer byte rest (Ok v) f = omega arith
one_longer byte rest (Err stop) f = omega arith

step_facts : (byte : ℕ) (rest : List ℕ) (r : Result Inside WireWhy) → ((to : Inside) → Facts rest (reading to rest)) → Facts (byte ∷ rest) (elim r [ Ok to ↦ reading to rest | Err fault ↦ Err (stops_at (byte ∷ rest) fault) ])
step_facts byte rest (Ok to) rec = one_longer byte rest (reading to rest) (rec to)
step_facts byte rest (Err fault) rec = omega arith

pub reading_facts : (inside : Inside) (w : List ℕ) → Facts w (reading inside w)
reading_facts (parts []) w = omega arith
reading_facts (parts (part ∷ below)) [] = omega arith
reading_facts (parts (part ∷ below)) (byte ∷ rest) = step_facts byte rest (part_step ALL part below byte) (λ to. reading_facts to rest)
reading_facts (tag_of context type below) [] = omega arith
reading_facts (tag_of context type below) (tag ∷ rest) = step_facts tag rest (tag_step ALL context type below tag) (λ to. reading_facts to rest)

pub contents_facts : (room : ℕ) (type : WireType) (w : List ℕ) → Facts w (contents_at room type w)
contents_facts room type w =
    let P : Result (List ℕ) Stop → Type 0 = Facts w in
    subst P (reading_contents room type [] w ∙ bind_ok (contents_at room type w)) (reading_facts (parts (contents room type [])) w)

-- for callers
pub head_shorter : (context : HeadContext) (w v : List ℕ) (head : Head) → head_at context w ≡ Ok (head, v) → length v < length w
head_shorter context w v head e = let P : Result (Head × List ℕ) Stop → Type 0 = HeadFacts context w in (subst P e (head_facts context w)).1

pub contents_not_longer : (room : ℕ) (type : WireType) (w v : List ℕ) → contents_at room type w ≡ Ok v → length v ≤ length w
contents_not_longer room type w v e = let P : Result (List ℕ) Stop → Type 0 = Facts w in subst P e (contents_facts room type w)

head_is_shallow : (context : HeadContext) (w v : List ℕ) (head : Head) → head_at context w ≡ Ok (head, v) → is_deep ALL context head.kind ≡ false
head_is_shallow context w v head e = let P : Result (Head × List ℕ) Stop → Type 0 = HeadFacts context w in (subst P e (head_facts context w)).0

pub item_room : (tag room : ℕ) (w v : List ℕ) (head : Head) → head_at (heads.Item tag room) w ≡ Ok (head, v) → IsTrue (opens head.kind) → 0 < room
unfolding is_deep
item_room tag room w v head e = room_for (opens head.kind) room (head_is_shallow (heads.Item tag room) w v head e)

pub struct_room : (from room : ℕ) (w v : List ℕ) (head : Head) → head_at (heads.Struct from room) w ≡ Ok (head, v) → IsTrue (opens head.kind) → 0 < room
unfolding is_deep
struct_room from room w v head e = room_for (opens head.kind) room (head_is_shallow (heads.Struct from room) w v head e)
