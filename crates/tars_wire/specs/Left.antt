-- What a cursor has left: at each open level the fields of the tree that were not handed out, the innermost
-- level first (docs/PROTOCOL.md, "Walking a body").
use Rattle.std.specs.Prelude.{◌≡◌, ◌≤◌, ℕ, zero, suc, ◌+◌, ◌-◌, Bool, true, false, ℤ, pos, List, [], ◌∷◌, Option, Some, None, get_or, length}
use Rattle.wire_words.specs.Tree.{WireNumber, zero_tag, int1, int2, int4, int8, WireValue, whole, float, double, string1, string4, simple_list, list, map, struct, WireValues, no_values, value, WirePairs, no_pairs, pair, WireFields, no_fields, field}
use Rattle.wire_words.specs.Spelling.{count_values, count_pairs}
use Rattle.tars_wire.specs.declared.wire_type.WireType.{WireType}
use Rattle.tars_wire.specs.declared.wire_type.WireType.TheVariants as wire
use Rattle.tars_wire.specs.declared.head.Head.{Head as ReadHead}
use Rattle.tars_wire.specs.declared.level.Level.{Level}
use Rattle.tars_wire.specs.declared.level.Level.TheVariants as level
use Rattle.tars_wire.specs.Heads.{MAX_DEPTH, Head}
use Rattle.tars_wire.specs.Spelled.{Contents, Values, Pairs, Fields}

-- what is left at one level: of a body or a struct, of a list, of a map before a key, or before the value of a key
pub data Remaining : Type 0 where
  fields_left : WireFields → Remaining
  values_left : WireValues → Remaining
  pairs_left : WirePairs → Remaining
  value_left : WireValue → WirePairs → Remaining

-- the next field: its tag and its value
abbrev pub next_field : Remaining → Option (ℕ × WireValue)
next_field (fields_left no_fields) = None
next_field (fields_left (field tag v fs)) = Some (tag, v)
next_field (values_left no_values) = None
next_field (values_left (value v vs)) = Some (0, v)
next_field (pairs_left no_pairs) = None
next_field (pairs_left (pair key v ps)) = Some (0, key)
next_field (value_left v ps) = Some (1, v)

-- what is left after it
abbrev pub after_next : Remaining → Remaining
after_next (fields_left no_fields) = fields_left no_fields
after_next (fields_left (field tag v fs)) = fields_left fs
after_next (values_left no_values) = values_left no_values
after_next (values_left (value v vs)) = values_left vs
after_next (pairs_left no_pairs) = pairs_left no_pairs
after_next (pairs_left (pair key v ps)) = value_left v ps
after_next (value_left v ps) = pairs_left ps

-- the type under which a value is spelled
abbrev pub type_of_number : WireNumber → WireType
type_of_number zero_tag = wire.ZeroTag
type_of_number (int1 n) = wire.Int1
type_of_number (int2 n) = wire.Int2
type_of_number (int4 n) = wire.Int4
type_of_number (int8 n) = wire.Int8

abbrev pub type_of_value : WireValue → WireType
type_of_value (whole n) = type_of_number n
type_of_value (float bytes) = wire.Float
type_of_value (double bytes) = wire.Double
type_of_value (string1 bytes) = wire.String1
type_of_value (string4 bytes) = wire.String4
type_of_value (simple_list bytes) = wire.SimpleList
type_of_value (list vs) = wire.List
type_of_value (map ps) = wire.Map
type_of_value (struct fs) = wire.StructBegin

abbrev pub value_of_number : WireNumber → ℤ
value_of_number zero_tag = pos 0
value_of_number (int1 n) = n
value_of_number (int2 n) = n
value_of_number (int4 n) = n
value_of_number (int8 n) = n

-- the whole number, the bytes of a string, and those of a simple list, where a value is one
abbrev pub number_in : WireValue → Option ℤ
number_in (whole n) = Some (value_of_number n)
number_in _ = None

abbrev pub text_in : WireValue → Option (List ℕ)
text_in (string1 bytes) = Some bytes
text_in (string4 bytes) = Some bytes
text_in _ = None

abbrev pub simple_in : WireValue → Option (List ℕ)
simple_in (simple_list bytes) = Some bytes
simple_in _ = None

-- how many values or pairs; 0 for a struct
abbrev pub size_in : WireValue → Option ℕ
size_in (list vs) = Some (count_values vs)
size_in (map ps) = Some (count_pairs ps)
size_in (struct fs) = Some 0
size_in _ = None

-- what is left where a list, a map or a struct was just entered
abbrev pub all_inside : WireValue → Remaining
all_inside (list vs) = values_left vs
all_inside (map ps) = pairs_left ps
all_inside (struct fs) = fields_left fs
all_inside _ = fields_left no_fields

-- the next field of all levels
abbrev pub next_of : List Remaining → Option (ℕ × WireValue)
next_of [] = None
next_of (inner ∷ outer) = next_field inner

abbrev pub head_in : Option (ℕ × WireValue) → Option ReadHead
head_in None = None
head_in (Some next) = Some (record { tag = next.0; kind = type_of_value next.1 })

-- its head; None at the end of the innermost level
abbrev pub head_left : List Remaining → Option ReadHead
head_left left = head_in (next_of left)

abbrev pub of_next : {X : Type 0} → (WireValue → Option X) → Option (ℕ × WireValue) → Option X
of_next f None = None
of_next f (Some next) = f next.1

-- past the next field
abbrev pub skipped : List Remaining → List Remaining
skipped [] = []
skipped (inner ∷ outer) = after_next inner ∷ outer

abbrev pub inside_next : Option (ℕ × WireValue) → Remaining
inside_next None = fields_left no_fields
inside_next (Some next) = all_inside next.1

-- into the next field
abbrev pub entered : List Remaining → List Remaining
entered left = inside_next (next_of left) ∷ skipped left

-- out of the innermost level
abbrev pub left_over : List Remaining → List Remaining
left_over [] = []
left_over (inner ∷ outer) = outer

-- Bytes spell what is left at a level, and these come after it.
abbrev pub LevelLeft : ℕ → Level → Remaining → List ℕ → List ℕ → Type 0
LevelLeft room level.Body (fields_left fs) bytes rest = (from : ℕ) × Fields room from fs bytes [] × (rest ≡ [])
LevelLeft room level.Struct (fields_left fs) bytes rest = (from : ℕ) × (mid : List ℕ) × Fields room from fs bytes mid × Head 0 wire.StructEnd mid rest
LevelLeft room (level.List n) (values_left vs) bytes rest = Values room n vs bytes rest
LevelLeft room (level.Map n) (pairs_left ps) bytes rest = (k : ℕ) × (n ≡ k + k) × Pairs room k ps bytes rest
LevelLeft room (level.Map n) (value_left v ps) bytes rest = (k : ℕ) × (type : WireType) × (following : List ℕ) × (next : List ℕ) × (n ≡ (k + k) + 1) × Head 1 type bytes following × Contents room type v following next × Pairs room k ps next rest
LevelLeft room level bytes rest left = ⊥

-- and at all levels
abbrev pub Left : ℕ → List Level → List Remaining → List ℕ → Type 0
Left room [] [] bytes = bytes ≡ []
Left room (l ∷ levels) (inner ∷ outer) bytes = (rest : List ℕ) × LevelLeft room l inner bytes rest × Left (room + 1) levels outer rest
Left room levels left bytes = ⊥

-- the levels around the innermost one, the last that was entered first
abbrev pub levels_around : List Level → ℕ → List Level
levels_around outer zero = []
levels_around outer (suc depth) = get_or outer depth level.Body ∷ levels_around outer depth

-- what clauses see of a cursor
pub record Standing : Type 0 where
  pub bytes : List ℕ
  pub room : ℕ
  pub levels : List Level

-- the fields that are left at each open level, the innermost first
abbrev pub IsLeft : Standing → List Remaining → Type 0
IsLeft cursor left = Left cursor.room cursor.levels left cursor.bytes

-- what holds of every cursor: its bytes spell something at each level
pub record Stands (bytes : List ℕ) (here : Level) (outer : List Level) (depth : ℕ) : Type 0 where
  pub deep : depth ≤ MAX_DEPTH
  pub left : List Remaining
  pub spelled : Left (MAX_DEPTH - depth) (here ∷ levels_around outer depth) left bytes

-- a level with what is left at it
pub record SomeLevel (here : Level) (bytes : List ℕ) : Type 0 where
  pub room : ℕ
  pub inner : Remaining
  pub rest : List ℕ
  pub is_left : LevelLeft room here inner bytes rest

pub record AtLevel (room : ℕ) (here : Level) (bytes : List ℕ) : Type 0 where
  pub inner : Remaining
  pub rest : List ℕ
  pub is_left : LevelLeft room here inner bytes rest

-- the types under which a whole number, a string, a simple list, and what can be entered are spelled
abbrev pub is_number_type : WireType → Bool
is_number_type wire.ZeroTag = true
is_number_type wire.Int1 = true
is_number_type wire.Int2 = true
is_number_type wire.Int4 = true
is_number_type wire.Int8 = true
is_number_type _ = false

abbrev pub is_text_type : WireType → Bool
is_text_type wire.String1 = true
is_text_type wire.String4 = true
is_text_type _ = false

abbrev pub is_simple_type : WireType → Bool
is_simple_type wire.SimpleList = true
is_simple_type _ = false

abbrev pub is_any_type : WireType → Bool
is_any_type type = true

-- this is the head of the next field
pub record IsNext (cursor : Standing) (head : ReadHead) : Type 0 where
  pub left : List Remaining
  pub is_left : IsLeft cursor left
  pub is_next : head_left left ≡ Some head

-- the next field has a type of some sort
pub record NextIs (cursor : Standing) (sort : WireType → Bool) : Type 0 where
  pub head : ReadHead
  pub next : IsNext cursor head
  pub is_sort : sort head.kind ≡ true

-- something was entered and not left yet
pub record HasEntered (cursor : Standing) : Type 0 where
  pub left : List Remaining
  pub is_left : IsLeft cursor left
  pub two : 2 ≤ length left
