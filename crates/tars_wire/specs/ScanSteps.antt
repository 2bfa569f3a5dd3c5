-- Reading from left to right, for the private functions and the proofs alone: a reader gives what it read and
-- the bytes after it, or where it stopped.
use Rattle.std.specs.Prelude.{◌≡◌, ℕ, ◌-◌, nat_lt, if◌then◌else◌, List, [], ◌∷◌, length, Option, Some, None, Result, Ok, Err}
use Rattle.std.specs.Int.{Width, w8, w16, w32}
use Rattle.facts.specs.ResultSteps.{◌>>=◌}
use Rattle.tars_wire.specs.declared.wire_type.WireType.{WireType}
use Rattle.tars_wire.specs.declared.wire_type.WireType.TheVariants as wire
use Rattle.tars_wire.specs.declared.wire_fault.WireWhy.{WireWhy}
use Rattle.tars_wire.specs.declared.wire_fault.WireWhy.TheVariants as why
use Rattle.tars_wire.specs.declared.stop.Stop.{Stop}
use Rattle.tars_wire.specs.declared.head_context.HeadContext.{HeadContext}
use Rattle.tars_wire.specs.declared.head_context.HeadContext.TheVariants as heads
use Rattle.tars_wire.specs.declared.head.Head.{Head}
use Rattle.tars_wire.specs.declared.head.FirstByte.{FirstByte}
use Rattle.tars_wire.specs.declared.head.FirstByte.TheVariants as first
use Rattle.tars_wire.specs.Spelled.{ALL}
use Rattle.tars_wire.specs.PrefixSteps.{bytes_prefix, unsigned_prefix}
use Rattle.tars_wire.specs.MachineSteps.{tag_fault, first_byte, Kind, of_values, of_pairs, in_struct, head_of, counted, Inside, parts, tag_of, part_step, tag_step, State, within, step, may_end}

-- a function returned, seen by view, what reading gives
abbrev pub Gives : {X Y : Type 0} → (X → Y) → Result X Stop → Result Y Stop → Type 0
Gives view (Ok x) read = read ≡ Ok (view x)
Gives view (Err stop) read = read ≡ Err stop

abbrev pub too_short : Stop
too_short = record { left = 0; why = why.Short }

abbrev pub stops_at : List ℕ → WireWhy → Stop
stops_at bytes fault = record { left = length bytes; why = fault }

abbrev pub judged_tag : Option WireWhy → WireType → ℕ → List ℕ → Result (Head × List ℕ) Stop
judged_tag None type tag rest = Ok (record { tag = tag; kind = type }, rest)
judged_tag (Some fault) type tag rest = Err (stops_at (tag ∷ rest) fault)

-- a tag in a byte of its own
unfoldable pub tag_at : HeadContext → WireType → List ℕ → Result (Head × List ℕ) Stop
tag_at context type [] = Err too_short
tag_at context type (tag ∷ rest) = judged_tag (tag_fault ALL context type tag) type tag rest

abbrev pub headed : HeadContext → Result FirstByte WireWhy → ℕ → List ℕ → Result (Head × List ℕ) Stop
headed context (Ok (first.Whole head)) byte rest = Ok (head, rest)
headed context (Ok (first.Long type)) byte rest = tag_at context type rest
headed context (Err fault) byte rest = Err (stops_at (byte ∷ rest) fault)

-- a head in either form
unfoldable pub head_at : HeadContext → List ℕ → Result (Head × List ℕ) Stop
head_at context [] = Err too_short
head_at context (byte ∷ rest) = headed context (first_byte ALL context byte) byte rest

-- what the bytes begin with, where they do not end before
abbrev pub or_short : {X Y : Type 0} → (X → Y) → Option X → Result Y Stop
or_short view None = Err too_short
or_short view (Some x) = Ok (view x)

-- past so many bytes
unfoldable pub past : ℕ → List ℕ → Result (List ℕ) Stop
past count bytes = or_short (λ x. x.1) (bytes_prefix count bytes)

-- a number of a width, the high byte first
unfoldable pub unsigned_at : Width → List ℕ → Result (ℕ × List ℕ) Stop
unsigned_at w bytes = or_short (λ x. x) (unsigned_prefix w bytes)

-- the same bytes, of a number that is not negative
unfoldable pub not_negative : List ℕ → Result (List ℕ) Stop
not_negative [] = Err too_short
not_negative (byte ∷ rest) = if nat_lt byte 128 then Ok (byte ∷ rest) else Err (stops_at (byte ∷ rest) why.BadSize)

unfoldable pub size_number : WireType → List ℕ → Result (ℕ × List ℕ) Stop
size_number wire.Int1 bytes = not_negative bytes >>= unsigned_at w8
size_number wire.Int2 bytes = not_negative bytes >>= unsigned_at w16
size_number wire.Int4 bytes = not_negative bytes >>= unsigned_at w32
size_number _ bytes = Ok (0, bytes)

unfoldable pub size_at : List ℕ → Result (ℕ × List ℕ) Stop
size_at bytes = head_at heads.Size bytes >>= λ head. size_number head.0.kind head.1

-- past what is awaited inside a field
abbrev pub reading : Inside → List ℕ → Result (List ℕ) Stop
reading (parts []) bytes = Ok bytes
reading (parts (part ∷ below)) [] = Err too_short
reading (parts (part ∷ below)) (byte ∷ rest) =
    elim (part_step ALL part below byte) [ Ok to ↦ reading to rest | Err fault ↦ Err (stops_at (byte ∷ rest) fault) ]
reading (tag_of context type below) [] = Err too_short
reading (tag_of context type below) (tag ∷ rest) =
    elim (tag_step ALL context type below tag) [ Ok to ↦ reading to rest | Err fault ↦ Err (stops_at (tag ∷ rest) fault) ]

-- past so many values or pairs
unfoldable pub counted_at : Kind → ℕ → List ℕ → Result (List ℕ) Stop
counted_at kind n bytes = reading (parts (counted kind n [])) bytes

-- past the fields of a struct and its end
unfoldable pub fields_at : ℕ → ℕ → List ℕ → Result (List ℕ) Stop
fields_at from room bytes = reading (parts (head_of (in_struct from room) ∷ [])) bytes

unfoldable pub text_at : Width → List ℕ → Result (List ℕ) Stop
text_at w bytes = unsigned_at w bytes >>= λ size. past size.0 size.1

unfoldable pub simple_list_at : List ℕ → Result (List ℕ) Stop
simple_list_at bytes = head_at heads.Simple bytes >>= λ head. size_at head.1 >>= λ size. past size.0 size.1

-- as much as a size counts
unfoldable pub sized_at : Kind → List ℕ → Result (List ℕ) Stop
sized_at kind bytes = size_at bytes >>= λ size. counted_at kind size.0 size.1

-- past the contents of a type
unfoldable pub contents_at : ℕ → WireType → List ℕ → Result (List ℕ) Stop
contents_at room wire.Int1 bytes = past 1 bytes
contents_at room wire.Int2 bytes = past 2 bytes
contents_at room wire.Int4 bytes = past 4 bytes
contents_at room wire.Int8 bytes = past 8 bytes
contents_at room wire.Float bytes = past 4 bytes
contents_at room wire.Double bytes = past 8 bytes
contents_at room wire.String1 bytes = text_at w8 bytes
contents_at room wire.String4 bytes = text_at w32 bytes
contents_at room wire.Map bytes = sized_at (of_pairs (room - 1)) bytes
contents_at room wire.List bytes = sized_at (of_values (room - 1)) bytes
contents_at room wire.StructBegin bytes = fields_at 0 (room - 1) bytes
contents_at room wire.StructEnd bytes = Ok bytes
contents_at room wire.ZeroTag bytes = Ok bytes
contents_at room wire.SimpleList bytes = simple_list_at bytes

-- past an element, a key or a map's value
unfoldable pub item_at : ℕ → ℕ → List ℕ → Result (List ℕ) Stop
item_at tag room bytes = head_at (heads.Item tag room) bytes >>= λ head. contents_at room head.0.kind head.1

unfoldable pub pair_at : ℕ → List ℕ → Result (List ℕ) Stop
pair_at room bytes = item_at 0 room bytes >>= item_at 1 room

-- to the end of a body
abbrev pub judging : State → List ℕ → Result (List ℕ) Stop
judging state [] = if may_end state then Ok [] else Err too_short
judging state (byte ∷ rest) = elim (step ALL state byte) [ Ok to ↦ judging to rest | Err fault ↦ Err (stops_at (byte ∷ rest) fault) ]

unfoldable pub body_at : ℕ → List ℕ → Result (List ℕ) Stop
body_at from bytes = judging (within (parts []) from) bytes
