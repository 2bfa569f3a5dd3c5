-- For the proofs: reading from left to right as the private functions do. A reader gives what it read and the bytes
-- after it, or where it ended. `inner` reads the contents of a field under a type, and `past` goes past them.
use Rattle.std.specs.Prelude.{◌≡◌, ℕ, zero, suc, ◌+◌, ◌*◌, Bool, true, false, ◌||◌, nat_lt, ◌==◌, if◌then◌else◌, ℤ, Option, Some, None, Result, Ok, Err, List, [], ◌∷◌, length, map as map_list}
use Rattle.std.specs.List.{list_any, insert}
use Rattle.facts.specs.ResultSteps.{◌>>=◌}
use Rattle.tars_model.specs.Declarations.{Declared, members_at}
use Rattle.tars_model.specs.Types.{TyLayer}
use Rattle.tars_model.specs.Values.{Key, is_byte, key_of, key_below, entry_key}
use Rattle.tars_model.specs.declared.member.Member.{Member}
use Rattle.tars_model.specs.declared.ty.Ty.{Ty, out-Ty}
use Rattle.tars_model.specs.declared.ty.Ty.TheOpen as ty
use Rattle.tars_model.specs.declared.value.Value.{Value, out-Value}
use Rattle.tars_model.specs.declared.value.Value.TheVariants as values
use Rattle.tars_model.specs.declared.value.Pair.{Pair}
use Rattle.tars_wire.specs.declared.head.Head.{Head}
use Rattle.tars_wire.specs.declared.wire_type.WireType.{WireType}
use Rattle.tars_wire.specs.declared.wire_type.WireType.TheVariants as wire
use Rattle.tars_wire.specs.Heads.{is_end}
use Rattle.tars_wire.specs.PrefixSteps.{head_prefix, bytes_prefix, number_prefix, size_prefix, text_prefix, simple_prefix}
use Rattle.tars_decode.specs.declared.halt.Halt.{Halt}
use Rattle.tars_decode.specs.declared.halt.Halt.TheVariants as halt
use Rattle.tars_decode.specs.declared.halt.Refusal.TheVariants.{Missing, Mismatch}
use Rattle.tars_decode.specs.declared.refuse.Misfit.{Misfit}
use Rattle.tars_decode.specs.declared.refuse.Misfit.TheVariants.{WrongType, Range, TwiceKey}
use Rattle.tars_decode.specs.declared.seeking.Meeting.{Meeting}
use Rattle.tars_decode.specs.declared.seeking.Meeting.TheVariants as meeting
use Rattle.tars_decode.specs.declared.seeking.Turn.{Turn}
use Rattle.tars_decode.specs.declared.seeking.Turn.TheVariants as turn
use Rattle.tars_decode.specs.Reads.{under, most_bytes, in_range, number_value, is_within, vector_of, same_key, entry}

abbrev pub Walk : Type 0 → Type 0
Walk X = Result (X × List ℕ) Halt

abbrev pub Inner : Type 0
Inner = Ty → WireType → List ℕ → Walk Value

abbrev pub Past : Type 0
Past = WireType → List ℕ → Result (List ℕ) Halt

-- what a function returned, seen by view, is what reading gives, unless memory ran out
abbrev pub Fails : {X : Type 0} → Halt → Result X Halt → Type 0
Fails halt.Memory read = Unit {0}
Fails halt.Stopped read = read ≡ Err halt.Stopped
Fails (halt.Refused refusal) read = read ≡ Err (halt.Refused refusal)

abbrev pub Gives : {X Y : Type 0} → (X → Y) → Result X Halt → Result Y Halt → Type 0
Gives view (Ok x) read = read ≡ Ok (view x)
Gives view (Err why) read = Fails why read

-- the same end, seen from one step further out
abbrev pub halt_under : ℕ → Halt → Halt
halt_under step (halt.Refused refusal) = halt.Refused (under step refusal)
halt_under step why = why

abbrev pub IsUnder : ℕ → Halt → Halt → Type 0
IsUnder step from halt.Memory = Unit {0}
IsUnder step from to = to ≡ halt_under step from

abbrev pub step_in : {X : Type 0} → ℕ → Result X Halt → Result X Halt
step_in step (Ok x) = Ok x
step_in step (Err why) = Err (halt_under step why)

abbrev pub no_fit : {X : Type 0} → Misfit → Result X Halt
no_fit why = Err (halt.Refused (Mismatch [] why))

-- what bytes begin with, as they do where they are a body
abbrev pub or_stopped : {X : Type 0} → Option X → Result X Halt
or_stopped (Some x) = Ok x
or_stopped None = Err halt.Stopped

-- ---- past what is not read

unfoldable pub skip_at : ℕ → List ℕ → Result (List ℕ) Halt
skip_at count bytes = or_stopped (bytes_prefix count bytes) >>= λ b. Ok b.1

unfoldable pub field_past : Past → List ℕ → Result (List ℕ) Halt
field_past past bytes = or_stopped (head_prefix bytes) >>= λ h. past h.0.kind h.1

-- so many fields
unfoldable pub counted_past : Past → ℕ → List ℕ → Result (List ℕ) Halt
counted_past past zero bytes = Ok bytes
counted_past past (suc n) bytes = field_past past bytes >>= counted_past past n

-- one field further, or past the end of a struct
unfoldable pub end_turn_at : Past → List ℕ → Walk Bool
end_turn_at past bytes =
    or_stopped (head_prefix bytes) >>= λ h. if is_end h.0.kind then Ok (true, h.1) else (past h.0.kind h.1 >>= λ rest. Ok (false, rest))

-- past at most so many fields and the end of a struct
unfoldable pub end_at : Past → ℕ → List ℕ → Result (List ℕ) Halt
end_at past zero bytes = Err halt.Stopped
end_at past (suc n) bytes = end_turn_at past bytes >>= λ t. if t.0 then Ok t.1 else end_at past n t.1

unfoldable pub text_past : WireType → List ℕ → Result (List ℕ) Halt
text_past type bytes = or_stopped (text_prefix type bytes) >>= λ t. Ok t.1

unfoldable pub simple_past : List ℕ → Result (List ℕ) Halt
simple_past bytes = or_stopped (simple_prefix bytes) >>= λ t. Ok t.1

-- a size, and so many fields for each that it counts
unfoldable pub sized_past : Past → ℕ → List ℕ → Result (List ℕ) Halt
sized_past past each bytes = or_stopped (size_prefix bytes) >>= λ n. counted_past past (each * n.0) n.1

-- the most fields of a struct, and one more turn for its end
abbrev pub MOST_TURNS : ℕ
MOST_TURNS = 257

unfoldable pub kind_past : Past → WireType → List ℕ → Result (List ℕ) Halt
kind_past past wire.ZeroTag bytes = Ok bytes
kind_past past wire.Int1 bytes = skip_at 1 bytes
kind_past past wire.Int2 bytes = skip_at 2 bytes
kind_past past wire.Int4 bytes = skip_at 4 bytes
kind_past past wire.Int8 bytes = skip_at 8 bytes
kind_past past wire.Float bytes = skip_at 4 bytes
kind_past past wire.Double bytes = skip_at 8 bytes
kind_past past wire.String1 bytes = text_past wire.String1 bytes
kind_past past wire.String4 bytes = text_past wire.String4 bytes
kind_past past wire.SimpleList bytes = simple_past bytes
kind_past past wire.List bytes = sized_past past 1 bytes
kind_past past wire.Map bytes = sized_past past 2 bytes
kind_past past wire.StructBegin bytes = end_at past MOST_TURNS bytes
kind_past past wire.StructEnd bytes = Err halt.Stopped

-- past the contents of a field, no deeper than `room`
unfoldable pub past_at : ℕ → Past
past_at zero type bytes = Err halt.Stopped
past_at (suc room) type bytes = kind_past (past_at room) type bytes

-- ---- the field of a tag

abbrev pub met : ℕ → Head → List ℕ → List ℕ → Meeting × List ℕ
met tag head rest bytes =
    if is_end head.kind || nat_lt tag head.tag then (meeting.Absent, bytes)
    else (if head.tag == tag then (meeting.Here head.kind, rest) else (meeting.Before head.kind, rest))

-- whether the next field is the one of the tag
unfoldable pub meet_at : ℕ → List ℕ → Walk Meeting
meet_at tag bytes = if length bytes == 0 then Ok (meeting.Absent, bytes) else (or_stopped (head_prefix bytes) >>= λ h. Ok (met tag h.0 h.1 bytes))

abbrev pub turned : Past → Meeting → List ℕ → Walk Turn
turned past (meeting.Here type) rest = Ok (turn.Ends (Some type), rest)
turned past meeting.Absent rest = Ok (turn.Ends None, rest)
turned past (meeting.Before type) rest = past type rest >>= λ after. Ok (turn.GoesOn, after)

-- one field further
unfoldable pub turn_at : Past → ℕ → List ℕ → Walk Turn
turn_at past tag bytes = meet_at tag bytes >>= λ m. turned past m.0 m.1

abbrev pub sought : (List ℕ → Walk (Option WireType)) → Turn → List ℕ → Walk (Option WireType)
sought next (turn.Ends found) rest = Ok (found, rest)
sought next turn.GoesOn rest = next rest

-- the contents of the field of a tag among so many, or the field before which it would stand
unfoldable pub seek_at : Past → ℕ → ℕ → List ℕ → Walk (Option WireType)
seek_at past tag zero bytes = Ok (None, bytes)
seek_at past tag (suc n) bytes = turn_at past tag bytes >>= λ t. sought (seek_at past tag n) t.0 t.1

-- ---- numbers and texts

abbrev pub type_bytes : WireType → ℕ
type_bytes wire.Int1 = 1
type_bytes wire.Int2 = 2
type_bytes wire.Int4 = 4
type_bytes wire.Int8 = 8
type_bytes _ = 0

abbrev pub ranged : TyLayer → ℤ → List ℕ → Walk Value
ranged t n rest = if in_range t n then Ok (number_value t n, rest) else no_fit Range

unfoldable pub number_at : TyLayer → WireType → List ℕ → Walk Value
number_at t type bytes =
    if is_within (type_bytes type) (most_bytes t) then (or_stopped (number_prefix type bytes) >>= λ n. ranged t n.0 n.1) else no_fit WrongType

unfoldable pub text_at : TyLayer → WireType → List ℕ → Walk Value
text_at ty.Text type bytes = or_stopped (text_prefix type bytes) >>= λ t. Ok (values.Text t.0, t.1)
text_at _ type bytes = no_fit WrongType

abbrev pub is_blob : TyLayer → Bool
is_blob (ty.Vector of) = is_byte (out-Ty of)
is_blob _ = false

unfoldable pub simple_at : TyLayer → List ℕ → Walk Value
simple_at t bytes = if is_blob t then (or_stopped (simple_prefix bytes) >>= λ b. Ok (values.Blob b.0, b.1)) else no_fit WrongType

-- ---- lists and maps

-- the next field, whatever its tag
unfoldable pub item_at : Inner → Ty → List ℕ → Walk Value
item_at inner t bytes = or_stopped (head_prefix bytes) >>= λ h. inner t h.0.kind h.1

unfoldable pub element_at : Inner → Ty → ℕ → List ℕ → Walk Value
element_at inner of step bytes = step_in step (item_at inner of bytes)

unfoldable pub elements_at : Inner → Ty → ℕ → ℕ → List ℕ → Walk (List Value)
elements_at inner of i zero bytes = Ok ([], bytes)
elements_at inner of i (suc n) bytes =
    element_at inner of i bytes >>= λ x. elements_at inner of (i + 1) n x.1 >>= λ xs. Ok (x.0 ∷ xs.0, xs.1)

unfoldable pub list_at : Inner → TyLayer → List ℕ → Walk Value
list_at inner (ty.Vector of) bytes = or_stopped (size_prefix bytes) >>= λ n. elements_at inner of 0 n.0 n.1 >>= λ vs. Ok (vector_of of vs.0, vs.1)
list_at inner _ bytes = no_fit WrongType

-- how many keys are below, before the first that is not
abbrev pub below_key : Key → List Key → ℕ
below_key key [] = 0
below_key key (k ∷ ks) = if key_below k key then suc (below_key key ks) else 0

-- where a key goes among keys that rise; None where it is
unfoldable pub place_of : Key → List Key → Option ℕ
place_of key keys = if list_any (same_key key) keys then None else Some (below_key key keys)

abbrev pub placed : Option ℕ → Value → List ℕ → Walk (ℕ × Value)
placed None key rest = no_fit TwiceKey
placed (Some place) key rest = Ok ((place, key), rest)

-- a key, with its place
unfoldable pub key_at : Inner → Ty → List Pair → List ℕ → Walk (ℕ × Value)
key_at inner key entries bytes = item_at inner key bytes >>= λ k. placed (place_of (key_of (out-Value k.0)) (map_list entry_key entries)) k.0 k.1

-- an entry, with its place
unfoldable pub entry_at : Inner → Ty → Ty → ℕ → List Pair → List ℕ → Walk (ℕ × Pair)
entry_at inner key to i entries bytes =
    step_in (2 * i) (key_at inner key entries bytes) >>= λ k. element_at inner to (2 * i + 1) k.1 >>= λ v. Ok ((k.0.0, entry k.0.1 v.0), v.1)

unfoldable pub entries_at : Inner → Ty → Ty → ℕ → ℕ → List Pair → List ℕ → Walk (List Pair)
entries_at inner key to i zero entries bytes = Ok (entries, bytes)
entries_at inner key to i (suc n) entries bytes =
    entry_at inner key to i entries bytes >>= λ e. entries_at inner key to (i + 1) n (insert entries e.0.0 e.0.1) e.1

unfoldable pub map_at : Inner → TyLayer → List ℕ → Walk Value
map_at inner (ty.Map key to) bytes = or_stopped (size_prefix bytes) >>= λ n. entries_at inner key to 0 n.0 [] n.1 >>= λ ps. Ok (values.Map ps.0, ps.1)
map_at inner _ bytes = no_fit WrongType

-- ---- members

unfoldable pub absent : Member → Result Value Halt
absent m = if m.require then Err (halt.Refused (Missing (m.tag ∷ []))) else Ok m.default

abbrev pub member_value : Inner → Member → Option WireType → List ℕ → Walk Value
member_value inner m (Some type) rest = step_in m.tag (inner m.ty type rest)
member_value inner m None rest = absent m >>= λ v. Ok (v, rest)

unfoldable pub member_at : Inner → Past → Member → List ℕ → Walk Value
member_at inner past m bytes = seek_at past m.tag (m.tag + 1) bytes >>= λ s. member_value inner m s.0 s.1

unfoldable pub members_from : Inner → Past → List Member → List ℕ → Walk (List Value)
members_from inner past [] bytes = Ok ([], bytes)
members_from inner past (m ∷ ms) bytes =
    member_at inner past m bytes >>= λ x. members_from inner past ms x.1 >>= λ xs. Ok (x.0 ∷ xs.0, xs.1)

unfoldable pub struct_at : Inner → Past → Declared → TyLayer → List ℕ → Walk Value
struct_at inner past d (ty.Struct number) bytes = members_from inner past (members_at d number) bytes >>= λ vs. end_at past MOST_TURNS vs.1 >>= λ rest. Ok (values.Struct vs.0, rest)
struct_at inner past d _ bytes = no_fit WrongType

-- ---- contents

unfoldable pub kind_at : Inner → Past → Declared → Inner
kind_at inner past d t wire.ZeroTag bytes = number_at (out-Ty t) wire.ZeroTag bytes
kind_at inner past d t wire.Int1 bytes = number_at (out-Ty t) wire.Int1 bytes
kind_at inner past d t wire.Int2 bytes = number_at (out-Ty t) wire.Int2 bytes
kind_at inner past d t wire.Int4 bytes = number_at (out-Ty t) wire.Int4 bytes
kind_at inner past d t wire.Int8 bytes = number_at (out-Ty t) wire.Int8 bytes
kind_at inner past d t wire.Float bytes = no_fit WrongType
kind_at inner past d t wire.Double bytes = no_fit WrongType
kind_at inner past d t wire.String1 bytes = text_at (out-Ty t) wire.String1 bytes
kind_at inner past d t wire.String4 bytes = text_at (out-Ty t) wire.String4 bytes
kind_at inner past d t wire.SimpleList bytes = simple_at (out-Ty t) bytes
kind_at inner past d t wire.List bytes = list_at inner (out-Ty t) bytes
kind_at inner past d t wire.Map bytes = map_at inner (out-Ty t) bytes
kind_at inner past d t wire.StructBegin bytes = struct_at inner past d (out-Ty t) bytes
kind_at inner past d t wire.StructEnd bytes = no_fit WrongType

-- the contents of a field, no deeper than `room`
unfoldable pub value_at : ℕ → Declared → Inner
value_at zero d t type bytes = Err halt.Stopped
value_at (suc room) d t type bytes = kind_at (value_at room d) (past_at room) d t type bytes
