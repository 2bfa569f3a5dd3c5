-- What a reader of one version makes of the values of another (docs/PROTOCOL.md, "Projection"): on values alone, without
-- what stands on the wire.
use Rattle.std.specs.Prelude.{ℕ, ◌+◌, ◌*◌, Bool, if◌then◌else◌, ℤ, Ok, List, [], ◌∷◌, map as map_list}
use Rattle.facts.specs.ResultSteps.{◌>>=◌}
use Rattle.tars_model.specs.Declarations.{Declared, members_at}
use Rattle.tars_model.specs.Types.{TyLayer}
use Rattle.tars_model.specs.Values.{is_signed, is_number_of}
use Rattle.tars_model.specs.declared.member.Member.{Member}
use Rattle.tars_model.specs.declared.ty.Ty.{Ty, out-Ty}
use Rattle.tars_model.specs.declared.ty.Ty.TheOpen as ty
use Rattle.tars_model.specs.declared.value.Value.{Value, fold-Value}
use Rattle.tars_model.specs.declared.value.Value.TheOpen as value
use Rattle.tars_model.specs.declared.value.Value.TheVariants as values
use Rattle.tars_model.specs.declared.value.Pair.{Pair, Pair-F, fold-Pair}
use Rattle.tars_decode.specs.declared.refuse.Misfit.TheVariants.{WrongType, Range}
use Rattle.tars_decode.specs.Reads.{Read, in_step, misfit, most_bytes, is_within, is_zero, number_value, text_as, blob_as, vector_of, new_key, entry, add_entry, Saying, members_of}
use Rattle.tars_codec.specs.Written.{bool_number}

-- what is made of a value under an old type and a new one, each over what its version declares
abbrev pub Projecting : Type 0
Projecting = Declared → Ty → Declared → Ty → Read Value

-- ---- numbers

-- the numbers that a type takes: a bool those of a byte, another type its own
abbrev pub takes : TyLayer → ℤ → Bool
takes ty.Bool n = is_signed 7 n
takes t n = is_number_of t n

-- in how many bytes the shortest form of a number stands
abbrev pub shortest_bytes : ℤ → ℕ
shortest_bytes n =
    if is_zero n then 0
    else (if is_signed 7 n then 1
    else (if is_signed 15 n then 2
    else (if is_signed 31 n then 4
    else 8)))

-- A number stays where the new type takes it; a bool is true for every number but 0. Else it is of the wrong type where its
-- shortest form is wider than the new type reads, and out of range where it is not.
abbrev pub number_under : ℤ → TyLayer → Read Value
number_under n t =
    if takes t n then Ok (number_value t n)
    else (if is_within (shortest_bytes n) (most_bytes t) then misfit Range
    else misfit WrongType)

-- ---- vectors and maps

-- elements, from an index on
abbrev pub project_elements : List Projecting → Declared → Ty → Declared → Ty → ℕ → Read (List Value)
project_elements [] d of d' of' i = Ok []
project_elements (v ∷ vs) d of d' of' i =
    in_step i (v d of d' of') >>= λ x. project_elements vs d of d' of' (i + 1) >>= λ xs. Ok (x ∷ xs)

-- against `vector<byte>` each element is a byte
abbrev pub list_under : List Projecting → Declared → TyLayer → Declared → TyLayer → Read Value
list_under vs d (ty.Vector of) d' (ty.Vector of') = project_elements vs d of d' of' 0 >>= λ xs. Ok (vector_of of' xs)
list_under vs d _ d' _ = misfit WrongType

-- entries, from an index on, with those before them: the key, which no entry before may have, then the value
abbrev pub project_entries : List (Projecting × Projecting) → Declared → Ty → Ty → Declared → Ty → Ty → ℕ → List Pair → Read (List Pair)
project_entries [] d key to d' key' to' i entries = Ok entries
project_entries (p ∷ ps) d key to d' key' to' i entries =
    in_step (2 * i) (p.0 d key d' key' >>= new_key entries) >>= λ x. in_step (2 * i + 1) (p.1 d to d' to') >>= λ y.
    project_entries ps d key to d' key' to' (i + 1) (add_entry (entry x y) entries)

abbrev pub map_under : List (Projecting × Projecting) → Declared → TyLayer → Declared → TyLayer → Read Value
map_under ps d (ty.Map key to) d' (ty.Map key' to') = project_entries ps d key to d' key' to' 0 [] >>= λ qs. Ok (values.Map qs)
map_under ps d _ d' _ = misfit WrongType

-- ---- structs

-- what old values say, each under its member's tag
abbrev pub held : Declared → List Member → List Projecting → Declared → List Saying
held d (m ∷ ms) (v ∷ vs) d' = (m.tag, λ t'. v d m.ty d' t') ∷ held d ms vs d'
held d _ _ d' = []

-- a new member takes the old one of its tag; without one it takes its default, or is missing where it is required
abbrev pub struct_under : List Projecting → Declared → TyLayer → Declared → TyLayer → Read Value
struct_under vs d (ty.Struct number) d' (ty.Struct number') =
    members_of (members_at d' number') (held d (members_at d number) vs d') >>= λ xs. Ok (values.Struct xs)
struct_under vs d _ d' _ = misfit WrongType

-- ---- values of all types

-- what is made of a value, given what is made of those inside it; a bool counts as 0 or 1
abbrev pub project_layer : value.Value-F Projecting (Projecting × Projecting) → Projecting
project_layer (value.Bool b) d t d' t' = number_under (bool_number b) (out-Ty t')
project_layer (value.Num n) d t d' t' = number_under n (out-Ty t')
project_layer (value.Text bytes) d t d' t' = text_as bytes (out-Ty t')
project_layer (value.Blob bytes) d t d' t' = blob_as bytes (out-Ty t')
project_layer (value.List vs) d t d' t' = list_under vs d (out-Ty t) d' (out-Ty t')
project_layer (value.Map ps) d t d' t' = map_under ps d (out-Ty t) d' (out-Ty t')
project_layer (value.Struct vs) d t d' t' = struct_under vs d (out-Ty t) d' (out-Ty t')

abbrev pub project_pair : Pair-F Projecting (Projecting × Projecting) → Projecting × Projecting
project_pair p = (p.key, p.value)

-- a value of an old type under a new one, or the first refusal in the reader's order
unfoldable pub projected : Value → Projecting
projected v = fold-Value Projecting (Projecting × Projecting) project_layer project_pair v

unfoldable pub projected_entry : Pair → Projecting × Projecting
projected_entry p = fold-Pair Projecting (Projecting × Projecting) project_layer project_pair p

-- the values of new members, from those of old members
unfoldable pub project_members : Declared → List Member → List Value → Declared → List Member → Read (List Value)
project_members d members vs d' members' = members_of members' (held d members (map_list projected vs) d')
