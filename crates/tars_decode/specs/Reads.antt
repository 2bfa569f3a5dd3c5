-- Members read from what stands on the wire (docs/PROTOCOL.md, "Reading members").
use Rattle.std.specs.Prelude.{ℕ, ◌+◌, ◌*◌, nat_le, Bool, true, false, ◌&&◌, not, ◌==◌, if◌then◌else◌, ℤ, pos, negsuc, Option, Some, None, Result, Ok, Err, List, [], ◌∷◌, map as map_list}
use Rattle.std.specs.Int.{w8, cast_unsigned}
use Rattle.std.specs.List.{list_any}
use Rattle.facts.specs.ResultSteps.{◌>>=◌}
use Rattle.tars_model.specs.Declarations.{Declared, members_at}
use Rattle.tars_model.specs.Types.{TyLayer}
use Rattle.tars_model.specs.Values.{Key, is_signed, is_unsigned, is_byte, key_of, key_below, entry_key}
use Rattle.tars_model.specs.declared.member.Member.{Member}
use Rattle.tars_model.specs.declared.ty.Ty.{Ty, out-Ty}
use Rattle.tars_model.specs.declared.ty.Ty.TheOpen as ty
use Rattle.tars_model.specs.declared.value.Value.{Value, out-Value}
use Rattle.tars_model.specs.declared.value.Value.TheOpen as value
use Rattle.tars_model.specs.declared.value.Value.TheVariants as values
use Rattle.tars_model.specs.declared.value.Pair.{Pair, roll-Pair}
use Rattle.wire_words.specs.Tree.{WireNumber, zero_tag, int1, int2, int4, int8, WireValue, whole, float, double, string1, string4, simple_list, list, map, struct, WireValues, no_values, value as element, WirePairs, no_pairs, pair, WireFields, no_fields, field}
use Rattle.tars_wire.specs.Left.{value_of_number}
use Rattle.tars_decode.specs.declared.refuse.Misfit.{Misfit}
use Rattle.tars_decode.specs.declared.refuse.Misfit.TheVariants.{WrongType, Range, TwiceKey}
use Rattle.tars_decode.specs.declared.halt.Refusal.{Refusal}
use Rattle.tars_decode.specs.declared.halt.Refusal.TheVariants.{Missing, Mismatch}

-- what is read, or why nothing is
abbrev pub Read : Type 0 → Type 0
Read X = Result X Refusal

-- the same refusal, seen from one step further out
abbrev pub under : ℕ → Refusal → Refusal
under step (Missing path) = Missing (step ∷ path)
under step (Mismatch path why) = Mismatch (step ∷ path) why

abbrev pub in_step : {X : Type 0} → ℕ → Read X → Read X
in_step step (Ok x) = Ok x
in_step step (Err refusal) = Err (under step refusal)

abbrev pub misfit : {X : Type 0} → Misfit → Read X
misfit why = Err (Mismatch [] why)

-- ---- numbers and texts

-- in how many bytes a number stands
abbrev pub bytes_of : WireNumber → ℕ
bytes_of zero_tag = 0
bytes_of (int1 n) = 1
bytes_of (int2 n) = 2
bytes_of (int4 n) = 4
bytes_of (int8 n) = 8

-- the most bytes in which a number of a type may stand; None for a type without numbers
abbrev pub most_bytes : TyLayer → Option ℕ
most_bytes ty.Bool = Some 1
most_bytes ty.Byte = Some 1
most_bytes ty.Short = Some 2
most_bytes ty.UByte = Some 2
most_bytes ty.Int = Some 4
most_bytes (ty.Enum number) = Some 4
most_bytes ty.UShort = Some 4
most_bytes ty.Long = Some 8
most_bytes ty.UInt = Some 8
most_bytes _ = None

-- the numbers of these bytes that the type has
abbrev pub in_range : TyLayer → ℤ → Bool
in_range ty.UByte n = is_unsigned 8 n
in_range ty.UShort n = is_unsigned 16 n
in_range ty.UInt n = is_unsigned 32 n
in_range _ n = true

abbrev pub is_zero : ℤ → Bool
is_zero (pos n) = n == 0
is_zero (negsuc n) = false

-- a bool is true for every number but 0
abbrev pub number_value : TyLayer → ℤ → Value
number_value ty.Bool n = values.Bool (not (is_zero n))
number_value _ n = values.Num n

abbrev pub is_within : ℕ → Option ℕ → Bool
is_within size None = false
is_within size (Some most) = nat_le size most

abbrev pub number_in_range : TyLayer → ℤ → Read Value
number_in_range t n = if in_range t n then Ok (number_value t n) else misfit Range

abbrev pub number_as : WireNumber → TyLayer → Read Value
number_as n t = if is_within (bytes_of n) (most_bytes t) then number_in_range t (value_of_number n) else misfit WrongType

abbrev pub text_as : List ℕ → TyLayer → Read Value
text_as bytes ty.Text = Ok (values.Text bytes)
text_as bytes _ = misfit WrongType

-- the bytes of a simple list
abbrev pub blob_as : List ℕ → TyLayer → Read Value
blob_as bytes (ty.Vector of) = if is_byte (out-Ty of) then Ok (values.Blob bytes) else misfit WrongType
blob_as bytes _ = misfit WrongType

-- ---- lists and maps

-- the byte of a number from -128 to 127; no element is anything else
abbrev pub byte_of : {V P : Type 0} → value.Value-F V P → ℕ
byte_of (value.Num n) = if is_signed 7 n then cast_unsigned w8 n else 0
byte_of _ = 0

abbrev pub vector_of : Ty → List Value → Value
vector_of of vs = if is_byte (out-Ty of) then values.Blob (map_list (λ v. byte_of (out-Value v)) vs) else values.List vs

abbrev pub list_as : (Ty → Read (List Value)) → TyLayer → Read Value
list_as elements (ty.Vector of) = elements of >>= λ vs. Ok (vector_of of vs)
list_as elements _ = misfit WrongType

-- neither key is below the other
abbrev pub same_key : Key → Key → Bool
same_key a b = not (key_below a b) && not (key_below b a)

-- a key, unless an entry has it
abbrev pub new_key : List Pair → Value → Read Value
new_key entries key = if list_any (same_key (key_of (out-Value key))) (map_list entry_key entries) then misfit TwiceKey else Ok key

abbrev pub entry : Value → Value → Pair
entry key to = roll-Pair (record { key = key; value = to })

-- an entry among others in the order of their keys
abbrev pub add_entry : Pair → List Pair → List Pair
add_entry p [] = p ∷ []
add_entry p (q ∷ qs) = if key_below (entry_key q) (entry_key p) then q ∷ add_entry p qs else p ∷ q ∷ qs

abbrev pub map_as : (Ty → Ty → Read (List Pair)) → TyLayer → Read Value
map_as entries (ty.Map key to) = entries key to >>= λ ps. Ok (values.Map ps)
map_as entries _ = misfit WrongType

-- ---- members

-- a field: its tag, and what its value says under any type
abbrev pub Saying : Type 0
Saying = ℕ × (Ty → Read Value)

abbrev pub said_under : ℕ → List Saying → Option (Ty → Read Value)
said_under tag [] = None
said_under tag (s ∷ ss) = if s.0 == tag then Some s.1 else said_under tag ss

-- an absent member is refused or takes its default
abbrev pub member_of : Member → Option (Ty → Read Value) → Read Value
member_of m (Some says) = in_step m.tag (says m.ty)
member_of m None = if m.require then Err (Missing (m.tag ∷ [])) else Ok m.default

abbrev pub members_of : List Member → List Saying → Read (List Value)
members_of [] said = Ok []
members_of (m ∷ ms) said = member_of m (said_under m.tag said) >>= λ x. members_of ms said >>= λ xs. Ok (x ∷ xs)

abbrev pub struct_as : List Saying → Declared → TyLayer → Read Value
struct_as said d (ty.Struct number) = members_of (members_at d number) said >>= λ vs. Ok (values.Struct vs)
struct_as said d _ = misfit WrongType

-- ---- what a value says under a type

abbrev mutual
  pub says : WireValue → Declared → Ty → Read Value
  says (whole n) d t = number_as n (out-Ty t)
  says (float bytes) d t = misfit WrongType
  says (double bytes) d t = misfit WrongType
  says (string1 bytes) d t = text_as bytes (out-Ty t)
  says (string4 bytes) d t = text_as bytes (out-Ty t)
  says (simple_list bytes) d t = blob_as bytes (out-Ty t)
  says (list vs) d t = list_as (λ of. all_say vs d of 0) (out-Ty t)
  says (map ps) d t = map_as (λ key to. pairs_say ps d key to 0 []) (out-Ty t)
  says (struct fs) d t = struct_as (sayings fs d) d (out-Ty t)

  -- elements, from an index on
  pub all_say : WireValues → Declared → Ty → ℕ → Read (List Value)
  all_say no_values d of i = Ok []
  all_say (element v vs) d of i = in_step i (says v d of) >>= λ x. all_say vs d of (i + 1) >>= λ xs. Ok (x ∷ xs)

  -- entries, from an index on, with those before them; a key is judged before its value is read
  pub pairs_say : WirePairs → Declared → Ty → Ty → ℕ → List Pair → Read (List Pair)
  pairs_say no_pairs d key to i entries = Ok entries
  pairs_say (pair k v ps) d key to i entries =
      in_step (2 * i) (says k d key >>= new_key entries) >>= λ x. in_step (2 * i + 1) (says v d to) >>= λ y. pairs_say ps d key to (i + 1) (add_entry (entry x y) entries)

  pub sayings : WireFields → Declared → List Saying
  sayings no_fields d = []
  sayings (field tag v fs) d = (tag, λ t. says v d t) ∷ sayings fs d

-- the values of members, or the first refusal
unfoldable pub reads : Declared → List Member → WireFields → Read (List Value)
reads d members fields = members_of members (sayings fields d)
