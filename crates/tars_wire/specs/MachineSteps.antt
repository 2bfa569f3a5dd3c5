-- What may stand next, and why a byte may not: the steps of a reader, for the proofs and the private
-- functions alone. What a fault is stands in Faults.
use Rattle.std.specs.Prelude.{ℕ, zero, suc, ◌+◌, ◌-◌, ◌*◌, ◌/◌, ◌%◌, ◌==◌, nat_lt, nat_le, Bool, true, false, ◌&&◌, ◌||◌, if◌then◌else◌, List, [], ◌∷◌, Option, Some, None, Result, Ok, Err}
use Rattle.tars_wire.specs.declared.wire_type.WireType.{WireType}
use Rattle.tars_wire.specs.declared.wire_type.WireType.TheVariants as wire
use Rattle.tars_wire.specs.declared.wire_fault.WireWhy.{WireWhy}
use Rattle.tars_wire.specs.declared.wire_fault.WireWhy.TheVariants as why
use Rattle.tars_wire.specs.declared.head_context.HeadContext.{HeadContext}
use Rattle.tars_wire.specs.declared.head_context.HeadContext.TheVariants as heads
use Rattle.tars_wire.specs.declared.head.FirstByte.{FirstByte}
use Rattle.tars_wire.specs.declared.head.FirstByte.TheVariants as first
use Rattle.tars_wire.specs.Heads.{MAX_DEPTH, MAX_TAG, LONG_HEAD, type_of, opens, is_end}
use Rattle.tars_wire.specs.Spelled.{Rules}

-- the types of a size
abbrev pub is_size : WireType → Bool
is_size wire.Int1 = true
is_size wire.Int2 = true
is_size wire.Int4 = true
is_size wire.ZeroTag = true
is_size _ = false

abbrev pub is_int1 : WireType → Bool
is_int1 wire.Int1 = true
is_int1 _ = false

abbrev pub not : Bool → Bool
not true = false
not false = true

-- first the type is judged
unfoldable pub takes : HeadContext → WireType → Bool
takes (heads.Body from) type = not (is_end type)
takes (heads.Struct from room) type = true
takes (heads.Item tag room) type = not (is_end type)
takes heads.Size type = is_size type
takes heads.Simple type = is_int1 type

-- A tag is not below `from`, where rising tags are kept. The last tag of all is judged at the head's first
-- byte (`is_full`).
abbrev pub order_fault : Bool → ℕ → ℕ → Option WireWhy
order_fault true from tag = if nat_le from tag || tag == MAX_TAG then None else Some why.Order
order_fault false from tag = None

-- the tag is this one, where fixed tags are kept
abbrev pub wrong_tag : Bool → ℕ → ℕ → Option WireWhy
wrong_tag true wanted tag = if tag == wanted then None else Some why.BadTag
wrong_tag false wanted tag = None

-- then the tag, where the byte holds it
unfoldable pub tag_fault : Rules → HeadContext → WireType → ℕ → Option WireWhy
tag_fault rules (heads.Body from) type tag = order_fault rules.rising_tags from tag
tag_fault rules (heads.Struct from room) type tag = if is_end type then wrong_tag rules.fixed_tags 0 tag else order_fault rules.rising_tags from tag
tag_fault rules (heads.Item wanted room) type tag = wrong_tag rules.fixed_tags wanted tag
tag_fault rules heads.Size type tag = wrong_tag rules.fixed_tags 0 tag
tag_fault rules heads.Simple type tag = wrong_tag rules.fixed_tags 0 tag

-- after tag 255 no tag is left for a field
unfoldable pub is_full : Rules → HeadContext → WireType → Bool
is_full rules (heads.Body from) type = rules.rising_tags && nat_lt MAX_TAG from
is_full rules (heads.Struct from room) type = not (is_end type) && (rules.rising_tags && nat_lt MAX_TAG from)
is_full rules _ type = false

-- then the depth
unfoldable pub is_deep : Rules → HeadContext → WireType → Bool
is_deep rules (heads.Struct from room) type = opens type && (rules.depth && room == 0)
is_deep rules (heads.Item tag room) type = opens type && (rules.depth && room == 0)
is_deep rules _ type = false

abbrev pub unless : {X : Type 0} → Option WireWhy → X → Result X WireWhy
unless None x = Ok x
unless (Some fault) x = Err fault

-- the first of two faults at one byte
abbrev pub sooner : Option WireWhy → Option WireWhy → Option WireWhy
sooner None other = other
sooner (Some fault) other = Some fault

abbrev pub depth_fault : Rules → HeadContext → WireType → Option WireWhy
depth_fault rules context type = if is_deep rules context type then Some why.Depth else None

-- the first that is wrong, of a head in one byte
unfoldable pub short_fault : Rules → HeadContext → WireType → ℕ → Option WireWhy
short_fault rules context type tag = sooner (tag_fault rules context type tag) (depth_fault rules context type)

-- and of the first byte of a long one
unfoldable pub long_fault : Rules → HeadContext → WireType → Option WireWhy
long_fault rules context type = if is_full rules context type then Some why.Order else depth_fault rules context type

-- what a head's first byte says in a context, by its type and its high four bits
unfoldable pub judged_byte : Rules → HeadContext → WireType → ℕ → Result FirstByte WireWhy
judged_byte rules context type high =
    if takes context type
    then (if high == LONG_HEAD then unless (long_fault rules context type) (first.Long type) else unless (short_fault rules context type high) (first.Whole (record { tag = high; kind = type })))
    else Err why.BadType

abbrev pub typed_byte : Rules → HeadContext → Option WireType → ℕ → Result FirstByte WireWhy
typed_byte rules context None high = Err why.BadType
typed_byte rules context (Some type) high = judged_byte rules context type high

unfoldable pub first_byte : Rules → HeadContext → ℕ → Result FirstByte WireWhy
first_byte rules context byte = typed_byte rules context (type_of (byte % 16)) (byte / 16)

-- what a size counts
pub data Kind : Type 0 where
  of_bytes : Kind
  of_values : ℕ → Kind
  of_pairs : ℕ → Kind

-- Where a head stands. The counts are of those after this one.
pub data Context : Type 0 where
  in_struct : (from room : ℕ) → Context
  an_element : (more room : ℕ) → Context
  a_key : (more room : ℕ) → Context
  its_value : (more room : ℕ) → Context
  a_size : Kind → Context
  simple_head : Context

abbrev pub head_context : Context → HeadContext
head_context (in_struct from room) = heads.Struct from room
head_context (an_element more room) = heads.Item 0 room
head_context (a_key more room) = heads.Item 0 room
head_context (its_value more room) = heads.Item 1 room
head_context (a_size kind) = heads.Size
head_context simple_head = heads.Simple

-- A part that is awaited, of at least one byte: one byte and so many more, the first byte of a number of so
-- many more, one byte and so many more of a number that so far is this, or a head.
pub data Part : Type 0 where
  raw : (more : ℕ) → Part
  size_first : Kind → (more : ℕ) → Part
  size_later : Kind → (more so_far : ℕ) → Part
  head_of : Context → Part

-- what a size of n calls for
abbrev pub counted : Kind → ℕ → List Part → List Part
counted of_bytes zero below = below
counted of_bytes (suc n) below = raw n ∷ below
counted (of_values room) zero below = below
counted (of_values room) (suc n) below = head_of (an_element n room) ∷ below
counted (of_pairs room) zero below = below
counted (of_pairs room) (suc n) below = head_of (a_key n room) ∷ below

-- what the contents of a type call for
abbrev pub contents : ℕ → WireType → List Part → List Part
contents room wire.Int1 below = raw 0 ∷ below
contents room wire.Int2 below = raw 1 ∷ below
contents room wire.Int4 below = raw 3 ∷ below
contents room wire.Int8 below = raw 7 ∷ below
contents room wire.Float below = raw 3 ∷ below
contents room wire.Double below = raw 7 ∷ below
contents room wire.String1 below = size_later of_bytes 0 0 ∷ below
contents room wire.String4 below = size_later of_bytes 3 0 ∷ below
contents room wire.Map below = head_of (a_size (of_pairs (room - 1))) ∷ below
contents room wire.List below = head_of (a_size (of_values (room - 1))) ∷ below
contents room wire.StructBegin below = head_of (in_struct 0 (room - 1)) ∷ below
contents room wire.StructEnd below = below
contents room wire.ZeroTag below = below
contents room wire.SimpleList below = head_of simple_head ∷ below

-- the bytes of a size, or none for the number 0
abbrev pub size_bytes : Kind → WireType → List Part → List Part
size_bytes kind wire.Int1 below = size_first kind 0 ∷ below
size_bytes kind wire.Int2 below = size_first kind 1 ∷ below
size_bytes kind wire.Int4 below = size_first kind 3 ∷ below
size_bytes kind _ below = counted kind 0 below

-- what a head with this tag and type calls for
abbrev pub after : Context → ℕ → WireType → List Part → List Part
after (in_struct from room) tag type below = if is_end type then below else contents room type (head_of (in_struct (tag + 1) room) ∷ below)
after (an_element more room) tag type below = contents room type (counted (of_values room) more below)
after (a_key more room) tag type below = contents room type (head_of (its_value more room) ∷ below)
after (its_value more room) tag type below = contents room type (counted (of_pairs room) more below)
after (a_size kind) tag type below = size_bytes kind type below
after simple_head tag type below = head_of (a_size of_bytes) ∷ below

-- the parts that are awaited inside a field, the next one first, or first of all the tag of a head
pub data Inside : Type 0 where
  parts : List Part → Inside
  tag_of : Context → WireType → List Part → Inside

abbrev pub head_step : Context → List Part → Result FirstByte WireWhy → Result Inside WireWhy
head_step context below (Ok (first.Whole head)) = Ok (parts (after context head.tag head.kind below))
head_step context below (Ok (first.Long type)) = Ok (tag_of context type below)
head_step context below (Err fault) = Err fault

-- a size that is negative: its other bytes are passed, and nothing is counted
abbrev pub negative : Bool → ℕ → List Part → Result Inside WireWhy
negative true more below = Err why.BadSize
negative false more below = Ok (parts (counted of_bytes more below))

-- one byte further
abbrev pub part_step : Rules → Part → List Part → ℕ → Result Inside WireWhy
part_step rules (raw zero) below byte = Ok (parts below)
part_step rules (raw (suc more)) below byte = Ok (parts (raw more ∷ below))
part_step rules (size_first kind zero) below byte = if nat_lt byte 128 then Ok (parts (counted kind byte below)) else negative rules.sizes zero below
part_step rules (size_first kind (suc more)) below byte = if nat_lt byte 128 then Ok (parts (size_later kind more byte ∷ below)) else negative rules.sizes (suc more) below
part_step rules (size_later kind zero so_far) below byte = Ok (parts (counted kind (so_far * 256 + byte) below))
part_step rules (size_later kind (suc more) so_far) below byte = Ok (parts (size_later kind more (so_far * 256 + byte) ∷ below))
part_step rules (head_of context) below byte = head_step context below (first_byte rules (head_context context) byte)

abbrev pub tag_step : Rules → Context → WireType → List Part → ℕ → Result Inside WireWhy
tag_step rules context type below tag = unless (tag_fault rules (head_context context) type tag) (parts (after context tag type below))

-- Before a byte of a body: inside a field, after which the tags go on with one from `from` on; or after
-- the first byte of a long head.
pub data State : Type 0 where
  within : Inside → (from : ℕ) → State
  body_tag : (from : ℕ) → WireType → State

abbrev pub lift_step : ℕ → Result Inside WireWhy → Result State WireWhy
lift_step from (Ok inside) = Ok (within inside from)
lift_step from (Err fault) = Err fault

abbrev pub body_step : ℕ → Result FirstByte WireWhy → Result State WireWhy
body_step from (Ok (first.Whole head)) = Ok (within (parts (contents MAX_DEPTH head.kind [])) (head.tag + 1))
body_step from (Ok (first.Long type)) = Ok (body_tag from type)
body_step from (Err fault) = Err fault

abbrev pub step : Rules → State → ℕ → Result State WireWhy
step rules (within (parts []) from) byte = body_step from (first_byte rules (heads.Body from) byte)
step rules (within (parts (part ∷ below)) from) byte = lift_step from (part_step rules part below byte)
step rules (within (tag_of context type below) from) tag = lift_step from (tag_step rules context type below tag)
step rules (body_tag from type) tag = unless (tag_fault rules (heads.Body from) type tag) (within (parts (contents MAX_DEPTH type [])) (tag + 1))

-- a body may end between two fields
abbrev pub may_end : State → Bool
may_end (within (parts []) from) = true
may_end _ = false

-- before the first byte
abbrev pub START : State
START = within (parts []) 0
