-- Values that a body can hold (docs/PROTOCOL.md, "Fields" and "Contents"): numbers stand in their kinds, lengths and
-- counts are within their bounds, tags rise strictly, and no more than `room` lists, maps and structs stand inside one
-- another. Tags and lengths of one byte are bytes of the spelling, of which the law says that they are below 256.
use Rattle.std.specs.Prelude.{◌≡◌, ◌<◌, ◌≤◌, ◌^◌, ℕ, ◌+◌, ◌-◌, length, FitsSigned}
use Rattle.std.specs.Int.{w8, w16, w32, w64}
use Rattle.wire_words.specs.Tree.{WireNumber, zero_tag, int1, int2, int4, int8, WireValue, whole, float, double, string1, string4, simple_list, list, map, struct, WireValues, no_values, value, WirePairs, no_pairs, pair, WireFields, no_fields, field}
use Rattle.wire_words.specs.Spelling.{count_values, count_pairs}

-- a number of one, two, four or eight bytes
abbrev pub IsInKind : WireNumber → Type 0
IsInKind zero_tag = Unit {0}
IsInKind (int1 n) = FitsSigned w8 n
IsInKind (int2 n) = FitsSigned w16 n
IsInKind (int4 n) = FitsSigned w32 n
IsInKind (int8 n) = FitsSigned w64 n

abbrev mutual
  pub Writable : WireValue → ℕ → Type 0
  Writable (whole n) room = IsInKind n
  Writable (float bytes) room = length bytes ≡ 4
  Writable (double bytes) room = length bytes ≡ 8
  Writable (string1 bytes) room = Unit {0}
  Writable (string4 bytes) room = length bytes < 2 ^ 32
  Writable (simple_list bytes) room = length bytes < 2 ^ 31
  Writable (list vs) room = (0 < room) × (count_values vs < 2 ^ 31) × ValuesWritable vs (room - 1)
  Writable (map ps) room = (0 < room) × (count_pairs ps < 2 ^ 31) × PairsWritable ps (room - 1)
  Writable (struct fs) room = (0 < room) × FieldsWritable fs (room - 1) 0

  pub ValuesWritable : WireValues → ℕ → Type 0
  ValuesWritable no_values room = Unit {0}
  ValuesWritable (value v vs) room = Writable v room × ValuesWritable vs room

  pub PairsWritable : WirePairs → ℕ → Type 0
  PairsWritable no_pairs room = Unit {0}
  PairsWritable (pair key v ps) room = Writable key room × Writable v room × PairsWritable ps room

  -- fields with strictly rising tags, none of them below `from`
  pub FieldsWritable : WireFields → ℕ → ℕ → Type 0
  FieldsWritable no_fields room from = Unit {0}
  FieldsWritable (field tag v fs) room from = (from ≤ tag) × Writable v room × FieldsWritable fs room (tag + 1)
