-- What was written for values under old members is read under new ones as their projection.
use Rattle.std.proofs.Common.{◌≡◌, ℕ, ◌+◌, ◌*◌, Bool, true, false, cond, leb, ℤ, List, [], ◌∷◌, length, map, Result, Ok, refl, sym, ap, ◌∙◌, subst}
use Rattle.std.specs.List.{list_all}
use Rattle.std.proofs.lemmas.Bool.{and_parts}
use Rattle.facts.specs.ResultSteps.{◌>>=◌}
use Rattle.facts.proofs.ResultLaws.{bind_same}
use Rattle.tars_model.specs.Declarations.{Declared, members_at}
use Rattle.tars_model.specs.Types.{TyLayer}
use Rattle.tars_model.specs.Values.{is_signed, told, told_entry, fits, fits_list, fits_map, fits_struct, entry_fits, fit_told, fit_members}
use Rattle.tars_model.specs.declared.member.Member.{Member}
use Rattle.tars_model.specs.declared.ty.Ty.{Ty, out-Ty}
use Rattle.tars_model.specs.declared.ty.Ty.TheOpen as ty
use Rattle.tars_model.specs.declared.value.Value.{Value}
use Rattle.tars_model.specs.declared.value.Value.TheVariants as values
use Rattle.tars_model.specs.declared.value.Pair.{Pair}
use Rattle.tars_model.proofs.ToldLaws.{told_fits_num, told_fits_list, told_fits_map, told_fits_struct, all_told, all_entries, entry_fits_is}
use Rattle.wire_words.specs.Tree.{string1, string4}
use Rattle.tars_decode.specs.Reads.{Read, in_step, says, all_say, pairs_say, sayings, reads, text_as, list_as, map_as, struct_as, vector_of, new_key, entry, add_entry}
use Rattle.tars_wire.specs.Heads.{MAX_DEPTH}
use Rattle.tars_wire.specs.Spelled.{Spelled}
use Rattle.tars_decode.specs.Decoding.{Answers}
use Rattle.tars_decode.specs.declared.refuse.Refuse.{Refuse}
use Rattle.tars_versions.specs.Decoded.{IsDecoded}
use Rattle.tars_codec.specs.Written.{Writing, bool_number, wire_text, wire_elements, wire_entries, wire_members, wire_list, wire_map, wire_struct, wire_value, wire_entry, fields_of}
use Rattle.tars_codec.proofs.CallerLemmas.{bool_wire, num_wire, text_wire, blob_wire, list_wire, map_wire, struct_wire}
use Rattle.tars_codec.proofs.Layers.{wire_entry_out}
use Rattle.tars_versions.specs.Projected.{Projecting, project_elements, list_under, project_entries, map_under, held, struct_under, projected, projected_entry, project_members}
use Rattle.tars_versions.proofs.Induction.{AllOf, OfPair, each_value}
use Rattle.tars_versions.proofs.NumberLaws.{number_said, numbers_are_longs}
use Rattle.tars_versions.proofs.EachKind.{projected_entry_out, bool_projected, num_projected, text_projected, blob_projected, list_projected, map_projected, struct_projected}
use Rattle.tars_versions.proofs.Said.{Agree, members_agree}

-- what was written for a value says its projection under every type
abbrev IsSaid : Value → Type 0
IsSaid v = (d : Declared) (t : Ty) → fits d t v ≡ true → (d' : Declared) (t' : Ty) → says (wire_value v d t) d' t' ≡ projected v d t d' t'

-- ---- numbers and texts

bool_long : (b : Bool) → is_signed 63 (bool_number b) ≡ true
bool_long true = refl
bool_long false = refl

bool_said : (b : Bool) → IsSaid (values.Bool b)
bool_said b d t fit d' t' =
    ap (λ w. says w d' t') (bool_wire (values.Bool b) d t b refl) ∙ (number_said (bool_number b) (out-Ty t') (bool_long b) ∙ sym (bool_projected d t d' t' b))

num_said : (n : ℤ) → IsSaid (values.Num n)
num_said n d t fit d' t' =
    let long = numbers_are_longs (out-Ty t) n (sym (told_fits_num (values.Num n) d t n refl) ∙ fit) in
    ap (λ w. says w d' t') (num_wire (values.Num n) d t n refl) ∙ (number_said n (out-Ty t') long ∙ sym (num_projected d t d' t' n))

wire_text_said : (bytes : List ℕ) (d' : Declared) (t' : Ty) → says (wire_text bytes) d' t' ≡ text_as bytes (out-Ty t')
wire_text_said bytes d' t' = by_test (leb (length bytes) 255)
  where
    by_test : (b : Bool) → says (cond b (string1 bytes) (string4 bytes)) d' t' ≡ text_as bytes (out-Ty t')
    by_test true = refl
    by_test false = refl

text_said : (bytes : List ℕ) → IsSaid (values.Text bytes)
text_said bytes d t fit d' t' =
    ap (λ w. says w d' t') (text_wire (values.Text bytes) d t bytes refl) ∙ (wire_text_said bytes d' t' ∙ sym (text_projected d t d' t' bytes))

blob_said : (bytes : List ℕ) → IsSaid (values.Blob bytes)
blob_said bytes d t fit d' t' =
    ap (λ w. says w d' t') (blob_wire (values.Blob bytes) d t bytes refl) ∙ sym (blob_projected d t d' t' bytes)

-- ---- vectors

next_element : ℕ → Read Value → Read (List Value) → Read (List Value)
next_element i first others = in_step i first >>= λ x. others >>= λ xs. Ok (x ∷ xs)

elements_said : (d : Declared) (of : Ty) (d' : Declared) (of' : Ty) (i : ℕ) (vs : List Value) → AllOf IsSaid vs → list_all (λ v. (told v).fits d of) vs ≡ true → all_say (wire_elements d of (map wire_value vs)) d' of' i ≡ project_elements (map projected vs) d of d' of' i
unfolding next_element
elements_said d of d' of' i [] said fit = refl
elements_said d of d' of' i (v ∷ vs) said fit =
    let parts = and_parts ((told v).fits d of) (list_all (λ v. (told v).fits d of) vs) fit in
    ap (λ first. next_element i first (all_say (wire_elements d of (map wire_value vs)) d' of' (i + 1))) (said.0 d of parts.0 d' of')
    ∙ ap (next_element i (projected v d of d' of')) (elements_said d of d' of' (i + 1) vs said.1 parts.1)

list_said_at : (vs : List Value) → AllOf IsSaid vs → (d : Declared) (d' : Declared) (t' : Ty) (l l' : TyLayer) → out-Ty t' ≡ l' → fits_list (map told vs) d l ≡ true → says (wire_list (map wire_value vs) d l) d' t' ≡ list_under (map projected vs) d l d' l'
list_said_at vs said d d' t' (ty.Vector of) (ty.Vector of') is' fit =
    let all = sym (all_told d of vs) ∙ (and_parts _ _ fit).1 in
    ap (λ l'. list_as (λ of'. all_say (wire_elements d of (map wire_value vs)) d' of' 0) l') is'
    ∙ ap (λ read. read >>= λ xs. Ok (vector_of of' xs)) (elements_said d of d' of' 0 vs said all)
list_said_at vs said d d' t' (ty.Vector of) _ is' fit = ap (λ l'. list_as (λ of'. all_say (wire_elements d of (map wire_value vs)) d' of' 0) l') is'
list_said_at vs said d d' t' _ _ is' fit = absurd cc

list_said : (vs : List Value) → AllOf IsSaid vs → IsSaid (values.List vs)
list_said vs said d t fit d' t' =
    ap (λ w. says w d' t') (list_wire (values.List vs) d t vs refl)
    ∙ (list_said_at vs said d d' t' (out-Ty t) (out-Ty t') refl (sym (told_fits_list (values.List vs) d t vs refl) ∙ fit) ∙ sym (list_projected d t d' t' vs))

-- ---- maps

next_entry : ℕ → Read Value → Read Value → (List Pair → Read (List Pair)) → List Pair → Read (List Pair)
next_entry i key to others entries =
    in_step (2 * i) (key >>= new_key entries) >>= λ x. in_step (2 * i + 1) to >>= λ y. others (add_entry (entry x y) entries)

entry_said : (p : Pair) → OfPair IsSaid p → (d : Declared) (key to : Ty) → entry_fits d key to p ≡ true → (d' : Declared) (key' to' : Ty)
    → (says ((wire_entry p).0 d key) d' key' ≡ (projected_entry p).0 d key d' key') × (says ((wire_entry p).1 d to) d' to' ≡ (projected_entry p).1 d to d' to')
entry_said p said d key to fit d' key' to' =
    let parts = and_parts _ _ (sym (entry_fits_is d key to p) ∙ fit) in (
      ap (λ (w : Writing × Writing). says (w.0 d key) d' key') (wire_entry_out p) ∙ (said.0 d key parts.0 d' key' ∙ sym (ap (λ (w : Projecting × Projecting). w.0 d key d' key') (projected_entry_out p))),
      ap (λ (w : Writing × Writing). says (w.1 d to) d' to') (wire_entry_out p) ∙ (said.1 d to parts.1 d' to' ∙ sym (ap (λ (w : Projecting × Projecting). w.1 d to d' to') (projected_entry_out p))),
    )

entries_said : (d : Declared) (key to : Ty) (d' : Declared) (key' to' : Ty) (i : ℕ) (entries : List Pair) (ps : List Pair) → AllOf (OfPair IsSaid) ps → list_all (entry_fits d key to) ps ≡ true
    → pairs_say (wire_entries d key to (map wire_entry ps)) d' key' to' i entries ≡ project_entries (map projected_entry ps) d key to d' key' to' i entries
unfolding next_entry
entries_said d key to d' key' to' i entries [] said fit = refl
entries_said d key to d' key' to' i entries (p ∷ ps) said fit =
    let parts = and_parts (entry_fits d key to p) (list_all (entry_fits d key to) ps) fit in
    let own = entry_said p said.0 d key to parts.0 d' key' to' in
    let more = λ (qs : List Pair). pairs_say (wire_entries d key to (map wire_entry ps)) d' key' to' (i + 1) qs in
    let to_said = (projected_entry p).1 d to d' to' in
    ap (λ k. next_entry i k (says ((wire_entry p).1 d to) d' to') more entries) own.0
    ∙ (ap (λ v. next_entry i ((projected_entry p).0 d key d' key') v more entries) own.1
    ∙ bind_same (in_step (2 * i) ((projected_entry p).0 d key d' key' >>= new_key entries)) (λ x. in_step (2 * i + 1) to_said >>= λ y. more (add_entry (entry x y) entries)) _
    (λ x. bind_same (in_step (2 * i + 1) to_said) (λ y. more (add_entry (entry x y) entries)) _ (λ y. entries_said d key to d' key' to' (i + 1) (add_entry (entry x y) entries) ps said.1 parts.1)))

map_said_at : (ps : List Pair) → AllOf (OfPair IsSaid) ps → (d : Declared) (d' : Declared) (t' : Ty) (l l' : TyLayer) → out-Ty t' ≡ l' → fits_map (map told_entry ps) d l ≡ true → says (wire_map (map wire_entry ps) d l) d' t' ≡ map_under (map projected_entry ps) d l d' l'
map_said_at ps said d d' t' (ty.Map key to) (ty.Map key' to') is' fit =
    let all = sym (all_entries d key to ps) ∙ (and_parts _ _ fit).1 in
    ap (λ l'. map_as (λ key' to'. pairs_say (wire_entries d key to (map wire_entry ps)) d' key' to' 0 []) l') is'
    ∙ ap (λ read. read >>= λ qs. Ok (values.Map qs)) (entries_said d key to d' key' to' 0 [] ps said all)
map_said_at ps said d d' t' (ty.Map key to) _ is' fit = ap (λ l'. map_as (λ key' to'. pairs_say (wire_entries d key to (map wire_entry ps)) d' key' to' 0 []) l') is'
map_said_at ps said d d' t' _ _ is' fit = absurd cc

map_said : (ps : List Pair) → AllOf (OfPair IsSaid) ps → IsSaid (values.Map ps)
map_said ps said d t fit d' t' =
    ap (λ w. says w d' t') (map_wire (values.Map ps) d t ps refl)
    ∙ (map_said_at ps said d d' t' (out-Ty t) (out-Ty t') refl (sym (told_fits_map (values.Map ps) d t ps refl) ∙ fit) ∙ sym (map_projected d t d' t' ps))

-- ---- structs and members

held_agrees : (d : Declared) (ms : List Member) (vs : List Value) → AllOf IsSaid vs → fit_told d ms (map told vs) ≡ true → (d' : Declared) → Agree (sayings (wire_members d ms (map wire_value vs)) d') (held d ms (map projected vs) d')
held_agrees d [] [] said fit d' = tt
held_agrees d [] (v ∷ vs) said fit d' = absurd cc
held_agrees d (m ∷ ms) [] said fit d' = absurd cc
held_agrees d (m ∷ ms) (v ∷ vs) said fit d' =
    let parts = and_parts ((told v).fits d m.ty) (fit_told d ms (map told vs)) fit in
    (refl, (λ t'. said.0 d m.ty parts.0 d' t'), held_agrees d ms vs said.1 parts.1 d')

struct_said_at : (vs : List Value) → AllOf IsSaid vs → (d : Declared) (d' : Declared) (t' : Ty) (l l' : TyLayer) → out-Ty t' ≡ l' → fits_struct (map told vs) d l ≡ true → says (wire_struct (map wire_value vs) d l) d' t' ≡ struct_under (map projected vs) d l d' l'
struct_said_at vs said d d' t' (ty.Struct number) (ty.Struct number') is' fit =
    let fs = wire_members d (members_at d number) (map wire_value vs) in
    ap (struct_as (sayings fs d') d') is'
    ∙ ap (λ read. read >>= λ xs. Ok (values.Struct xs)) (members_agree (members_at d' number') (sayings fs d') (held d (members_at d number) (map projected vs) d') (held_agrees d (members_at d number) vs said fit d'))
struct_said_at vs said d d' t' (ty.Struct number) _ is' fit = ap (struct_as (sayings (wire_members d (members_at d number) (map wire_value vs)) d') d') is'
struct_said_at vs said d d' t' _ _ is' fit = absurd cc

struct_said : (vs : List Value) → AllOf IsSaid vs → IsSaid (values.Struct vs)
struct_said vs said d t fit d' t' =
    ap (λ w. says w d' t') (struct_wire (values.Struct vs) d t vs refl)
    ∙ (struct_said_at vs said d d' t' (out-Ty t) (out-Ty t') refl (sym (told_fits_struct (values.Struct vs) d t vs refl) ∙ fit) ∙ sym (struct_projected d t d' t' vs))

value_said : (v : Value) → IsSaid v
value_said v = each_value IsSaid (record { bool = bool_said; num = num_said; text = text_said; blob = blob_said; list = list_said; pairs = map_said; struct = struct_said }) v

all_said : (vs : List Value) → AllOf IsSaid vs
all_said [] = tt
all_said (v ∷ vs) = (value_said v, all_said vs)

-- the law
pub reads_projects : (d : Declared) (ms : List Member) (vs : List Value) (d' : Declared) (ms' : List Member) → fit_members d ms vs ≡ true → reads d' ms' (fields_of d ms vs) ≡ project_members d ms vs d' ms'
unfolding reads project_members
reads_projects d ms vs d' ms' fit =
    members_agree ms' (sayings (fields_of d ms vs) d') (held d ms (map projected vs) d') (held_agrees d ms vs (all_said vs) fit d')

-- bytes that spell the old fields are decoded to the projection
pub decoded_projects : (d : Declared) (ms : List Member) (vs : List Value) (d' : Declared) (ms' : List Member) (bytes : List ℕ) (result : Result (List Value) Refuse) → fit_members d ms vs ≡ true → Spelled MAX_DEPTH bytes (fields_of d ms vs) → IsDecoded bytes d' ms' result → Answers result (project_members d ms vs d' ms')
decoded_projects d ms vs d' ms' bytes result fit spelled decoded = subst (Answers result) (reads_projects d ms vs d' ms' fit) (decoded (fields_of d ms vs) spelled)
