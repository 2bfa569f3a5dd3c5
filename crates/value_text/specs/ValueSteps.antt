-- For the proofs: how values of every type are read from left to right, as the functions of src/values.rt do
-- (specs/ReadSteps.antt has the words that they are read by).
use Rattle.std.specs.Prelude.{ℕ, zero, suc, ◌==◌, Bool, true, false, if◌then◌else◌, Option, Some, None, Result, Ok, Err, List, [], ◌∷◌, length, drop, map}
use Rattle.std.specs.List.{insert}
use Rattle.facts.specs.ResultSteps.{◌>>=◌}
use Rattle.idl_lex.specs.Bytes.{begins}
use Rattle.tars_model.specs.Declarations.{Declared, members_at}
use Rattle.tars_model.specs.Types.{TyLayer}
use Rattle.tars_model.specs.Values.{Key, key_of, key_below, entry_key, is_byte}
use Rattle.tars_model.specs.declared.member.Member.{Member}
use Rattle.tars_model.specs.declared.ty.Ty.{Ty, out-Ty}
use Rattle.tars_model.specs.declared.ty.Ty.TheOpen as ty
use Rattle.tars_model.specs.declared.value.Pair.{Pair, roll-Pair}
use Rattle.tars_model.specs.declared.value.Value.{Value, out-Value}
use Rattle.tars_model.specs.declared.value.Value.TheVariants as values
use Rattle.value_text.specs.Spelling.{past_gap}
use Rattle.value_text.specs.declared.value_fault.ValueWhy.TheVariants.{TwiceKey}
use Rattle.value_text.specs.ReadSteps.{Stop, Read, unexpected, byte_at, sign_at, word_at, turn_at, truth_at, number_at, text_at, blob_at}

-- ---- lists

-- an element and those after it, or the end
abbrev pub element_then : {A : Type 0} → A → Bool → List ℕ → Read (List A) → Read (List A)
element_then x true rest others = Ok (x ∷ [], rest)
element_then x false rest others = others >>= λ o. Ok (x ∷ o.0, o.1)

-- at most so many elements
unfoldable pub elements_at : (List ℕ → Read Value) → ℕ → List ℕ → Read (List Value)
elements_at f zero bytes = unexpected bytes
elements_at f (suc count) bytes = do
  v ← f bytes
  turn ← turn_at 93 v.1
  element_then v.0 turn.0 turn.1 (elements_at f count turn.1)

abbrev pub list_inside : (List ℕ → Read Value) → List ℕ → Read Value
list_inside f inside =
    if begins (λ b. b == 93) inside then Ok (values.List [], drop 1 inside)
    else (elements_at f (length inside) inside >>= λ vs. Ok (values.List vs.0, vs.1))

unfoldable pub list_at : (List ℕ → Read Value) → List ℕ → Read Value
list_at f bytes = sign_at 91 bytes >>= list_inside f

-- ---- maps

-- where a key goes in a list with one key more at its start
abbrev pub place_before : Key → Key → Option ℕ → Option ℕ
place_before key next None = None
place_before key next (Some zero) = if key_below key next then Some 0 else (if key_below next key then Some 1 else None)
place_before key next (Some (suc at)) = Some (suc (suc at))

-- the place of a key that is not there yet: behind the last key below it
unfoldable pub place_at : Key → List Key → Option ℕ
place_at key [] = Some 0
place_at key (next ∷ keys) = place_before key next (place_at key keys)

abbrev pub as_entry : Value → Value → Pair
as_entry key to = roll-Pair (record { key = key; value = to })

abbrev pub free_place : Option ℕ → List ℕ → Result ℕ Stop
free_place (Some at) left = Ok at
free_place None left = Err (record { left = left; why = TwiceKey })

-- an entry and the place where it goes
unfoldable pub entry_at : (List ℕ → Read Value) → (List ℕ → Read Value) → List Key → List ℕ → Read (ℕ × Pair)
entry_at f g keys bytes = do
  key ← f bytes
  at ← free_place (place_at (key_of (out-Value key.0)) keys) bytes
  start ← sign_at 58 (past_gap key.1)
  to ← g start
  Ok ((at, as_entry key.0 to.0), to.1)

-- the entries with those before them
abbrev pub entries_then : Bool → List ℕ → List Pair → Read (List Pair) → Read (List Pair)
entries_then true rest all others = Ok (all, rest)
entries_then false rest all others = others

-- at most so many entries, put among others
unfoldable pub entries_at : (List ℕ → Read Value) → (List ℕ → Read Value) → ℕ → List Pair → List ℕ → Read (List Pair)
entries_at f g zero pairs bytes = unexpected bytes
entries_at f g (suc count) pairs bytes = do
  entry ← entry_at f g (map entry_key pairs) bytes
  turn ← turn_at 125 entry.1
  entries_then turn.0 turn.1 (insert pairs entry.0.0 entry.0.1) (entries_at f g count (insert pairs entry.0.0 entry.0.1) turn.1)

abbrev pub map_inside : (List ℕ → Read Value) → (List ℕ → Read Value) → List ℕ → Read Value
map_inside f g inside =
    if begins (λ b. b == 125) inside then Ok (values.Map [], drop 1 inside)
    else (entries_at f g (length inside) [] inside >>= λ ps. Ok (values.Map ps.0, ps.1))

unfoldable pub map_at : (List ℕ → Read Value) → (List ℕ → Read Value) → List ℕ → Read Value
map_at f g bytes = sign_at 123 bytes >>= map_inside f g

-- ---- structs

-- a member's name and its value
unfoldable pub field_at : (Ty → List ℕ → Read Value) → Member → List ℕ → Read Value
field_at f m bytes = do
  equals ← word_at m.name bytes
  start ← sign_at 61 (past_gap equals)
  f m.ty start

-- the comma before further members
abbrev pub comma_at : List Member → List ℕ → Result (List ℕ) Stop
comma_at [] bytes = Ok bytes
comma_at (m ∷ ms) bytes = sign_at 44 bytes

-- a value for each member, and the closing sign
unfoldable pub fields_at : (Ty → List ℕ → Read Value) → List Member → List ℕ → Read (List Value)
fields_at f [] bytes = byte_at 41 bytes >>= λ rest. Ok ([], rest)
fields_at f (m ∷ ms) bytes = do
  v ← field_at f m bytes
  next ← comma_at ms (past_gap v.1)
  vs ← fields_at f ms next
  Ok (v.0 ∷ vs.0, vs.1)

unfoldable pub struct_at : (Ty → List ℕ → Read Value) → List Member → List ℕ → Read Value
struct_at f ms bytes = do
  inside ← sign_at 40 bytes
  vs ← fields_at f ms inside
  Ok (values.Struct vs.0, vs.1)

-- ---- values

abbrev pub vector_at : (Ty → List ℕ → Read Value) → Ty → List ℕ → Read Value
vector_at f of bytes = if is_byte (out-Ty of) then blob_at bytes else list_at (f of) bytes

-- a value by its type, given how those inside it are read
abbrev pub value_by : Declared → (Ty → List ℕ → Read Value) → TyLayer → List ℕ → Read Value
value_by d f ty.Bool bytes = truth_at bytes
value_by d f ty.Text bytes = text_at bytes
value_by d f (ty.Vector of) bytes = vector_at f of bytes
value_by d f (ty.Map key to) bytes = map_at (f key) (f to) bytes
value_by d f (ty.Struct k) bytes = struct_at f (members_at d k) bytes
value_by d f t bytes = number_at d t bytes

-- a value with room for so many others, one inside the other
unfoldable pub value_at : ℕ → Declared → Ty → List ℕ → Read Value
value_at zero d t bytes = unexpected bytes
value_at (suc room) d t bytes = value_by d (value_at room d) (out-Ty t) bytes
