-- What is made of values with bytes in another version has bytes.
use Rattle.std.proofs.Common.{◌≡◌, ◌<◌, ◌^◌, ◌+◌, ◌-◌, ◌*◌, ℕ, suc, ℤ, pos, negsuc, nat_lt, ltb-true, Bool, true, false, cond, eqb, List, [], ◌∷◌, map, Option, Some, None, Ok, Err, refl, sym, subst, arith, lt-ltb}
use Rattle.std.specs.List.{list_any}
use Rattle.facts.specs.ResultSteps.{◌>>=◌}
use Rattle.std.proofs.lemmas.Bool.{and_from}
use Rattle.tars_model.specs.Declarations.{Declared, members_at}
use Rattle.tars_model.specs.Types.{TyLayer}
use Rattle.tars_model.specs.Values.{is_byte, key_of, key_below, entry_key}
use Rattle.tars_model.specs.declared.member.Member.{Member}
use Rattle.tars_model.specs.declared.ty.Ty.{Ty, out-Ty}
use Rattle.tars_model.specs.declared.ty.Ty.TheOpen as ty
use Rattle.tars_model.specs.declared.value.Value.{Value, out-Value}
use Rattle.tars_model.specs.declared.value.Value.TheOpen as value
use Rattle.tars_model.specs.declared.value.Value.TheVariants as values
use Rattle.tars_model.specs.declared.value.Pair.{Pair, Pair-F, out-roll-Pair}
use Rattle.tars_decode.specs.declared.refuse.Misfit.TheVariants.{WrongType, Range, TwiceKey}
use Rattle.tars_decode.specs.declared.halt.Refusal.TheVariants as refusal
use Rattle.tars_decode.specs.Reads.{Read, in_step, misfit, most_bytes, is_within, number_value, text_as, blob_as, byte_of, vector_of, same_key, new_key, entry, add_entry, said_under, member_of, members_of}
use Rattle.tars_codec.specs.Written.{bool_number}
use Rattle.tars_versions.specs.Projected.{Projecting, takes, shortest_bytes, number_under, project_elements, list_under, project_entries, map_under, held, struct_under, projected, projected_entry, project_members}
use Rattle.tars_versions.proofs.Induction.{AllOf, OfPair, each_value}
use Rattle.tars_versions.proofs.EachKind.{projected_entry_out, bool_projected, num_projected, text_projected, blob_projected, list_projected, map_projected, struct_projected}
use Rattle.value_text.specs.Printed.{are_bytes}
use Rattle.run_answers.proofs.ValueBytes.{HasBytes, num_has, bool_has, text_has, blob_has, list_has, map_has, struct_has, text_inside, blob_inside, list_inside, map_inside, struct_inside}

-- ---- steps

abbrev Gives : {X : Type 0} → (X → Type 0) → Read X → Type 0
Gives P (Ok x) = P x
Gives P (Err why) = Unit {0}

gives_step : {X : Type 0} (P : X → Type 0) (i : ℕ) (r : Read X) → Gives P r → Gives P (in_step i r)
gives_step P i (Ok x) gives = gives
gives_step P i (Err why) gives = tt

gives_then : {X Y : Type 0} (P : X → Type 0) (Q : Y → Type 0) (r : Read X) (f : X → Read Y) → Gives P r → ((x : X) → P x → Gives Q (f x)) → Gives Q (r >>= f)
gives_then P Q (Ok x) f gives goes = goes x gives
gives_then P Q (Err why) f gives goes = tt

gives_either : {X : Type 0} (P : X → Type 0) (b : Bool) (x y : Read X) → Gives P x → Gives P y → Gives P (cond b x y)
gives_either P true x y first second = first
gives_either P false x y first second = second

pub gives_ok : {X : Type 0} (P : X → Type 0) (r : Read X) (x : X) → Gives P r → r ≡ Ok x → P x
gives_ok P r x gives is = subst (Gives P) is gives

-- ---- numbers and texts

value_bytes : (l : TyLayer) (n : ℤ) → HasBytes (number_value l n)
value_bytes ty.Bool n = bool_has _
value_bytes ty.Byte n = num_has n
value_bytes ty.Short n = num_has n
value_bytes ty.Int n = num_has n
value_bytes ty.Long n = num_has n
value_bytes ty.UByte n = num_has n
value_bytes ty.UShort n = num_has n
value_bytes ty.UInt n = num_has n
value_bytes ty.Text n = num_has n
value_bytes (ty.Enum k) n = num_has n
value_bytes (ty.Struct k) n = num_has n
value_bytes (ty.Vector of) n = num_has n
value_bytes (ty.Map key to) n = num_has n

number_gives : (n : ℤ) (l : TyLayer) → Gives HasBytes (number_under n l)
number_gives n l =
    gives_either HasBytes (takes l n) (Ok (number_value l n)) (cond (is_within (shortest_bytes n) (most_bytes l)) (misfit Range) (misfit WrongType)) (value_bytes l n)
    (gives_either HasBytes (is_within (shortest_bytes n) (most_bytes l)) (misfit Range) (misfit WrongType) tt tt)

text_gives : (bytes : List ℕ) → are_bytes bytes ≡ true → (l : TyLayer) → Gives HasBytes (text_as bytes l)
text_gives bytes all ty.Text = text_has bytes all
text_gives bytes all _ = tt

blob_gives : (bytes : List ℕ) → are_bytes bytes ≡ true → (l : TyLayer) → Gives HasBytes (blob_as bytes l)
blob_gives bytes all (ty.Vector of) = gives_either HasBytes (is_byte (out-Ty of)) (Ok (values.Blob bytes)) (misfit WrongType) (blob_has bytes all) tt
blob_gives bytes all _ = tt

-- ---- vectors

byte_is : (l : value.Value-F Value Pair) → byte_of l < 256
byte_is (value.Num (pos n)) = by_test (nat_lt n (2 ^ 7)) refl
  where
    by_test : (b : Bool) → nat_lt n (2 ^ 7) ≡ b → cond b n 0 < 256
    by_test true e = let low = ltb-true n (2 ^ 7) e in omega (arith, low)
    by_test false e = omega arith
byte_is (value.Num (negsuc n)) = by_test (nat_lt n (2 ^ 7))
  where
    by_test : (b : Bool) → cond b (2 ^ 8 - suc n) 0 < 256
    by_test true = omega arith
    by_test false = omega arith
byte_is _ = omega arith

bytes_are : (vs : List Value) → are_bytes (map (λ v. byte_of (out-Value v)) vs) ≡ true
bytes_are [] = refl
bytes_are (v ∷ vs) = and_from _ _ (lt-ltb (byte_of (out-Value v)) 256 (byte_is (out-Value v))) (bytes_are vs)

vector_bytes : (of : Ty) (vs : List Value) → AllOf HasBytes vs → HasBytes (vector_of of vs)
vector_bytes of vs all = by_test (is_byte (out-Ty of))
  where
    by_test : (b : Bool) → HasBytes (cond b (values.Blob (map (λ v. byte_of (out-Value v)) vs)) (values.List vs))
    by_test true = blob_has _ (bytes_are vs)
    by_test false = list_has vs all

abbrev EachProjects : Value → Type 0
EachProjects v = (d : Declared) (t : Ty) (d' : Declared) (t' : Ty) → ((k : ℕ) → AllOf (λ (m : Member). HasBytes m.default) (members_at d' k)) → Gives HasBytes (projected v d t d' t')

abbrev Keeps : Value → Type 0
Keeps v = HasBytes v → EachProjects v

module _ (d : Declared) (d' : Declared) (defaults : (k : ℕ) → AllOf (λ (m : Member). HasBytes m.default) (members_at d' k)) where
  elements_give : (of of' : Ty) (i : ℕ) (vs : List Value) → AllOf EachProjects vs → Gives (AllOf HasBytes) (project_elements (map projected vs) d of d' of' i)
  elements_give of of' i [] each = tt
  elements_give of of' i (v ∷ vs) each =
      gives_then HasBytes (AllOf HasBytes) (in_step i (projected v d of d' of')) (λ x. project_elements (map projected vs) d of d' of' (i + 1) >>= λ xs. Ok (x ∷ xs))
      (gives_step HasBytes i (projected v d of d' of') (each.0 d of d' of' defaults))
      (λ x has. gives_then (AllOf HasBytes) (AllOf HasBytes) (project_elements (map projected vs) d of d' of' (i + 1)) (λ xs. Ok (x ∷ xs)) (elements_give of of' (i + 1) vs each.1) (λ xs all. (has, all)))

  list_gives : (vs : List Value) → AllOf EachProjects vs → (l l' : TyLayer) → Gives HasBytes (list_under (map projected vs) d l d' l')
  list_gives vs each (ty.Vector of) (ty.Vector of') =
      gives_then (AllOf HasBytes) HasBytes (project_elements (map projected vs) d of d' of' 0) (λ xs. Ok (vector_of of' xs)) (elements_give of of' 0 vs each) (λ xs all. vector_bytes of' xs all)
  list_gives vs each (ty.Vector of) _ = tt
  list_gives vs each _ _ = tt

  -- ---- maps

  new_gives : (entries : List Pair) (key : Value) → HasBytes key → Gives HasBytes (new_key entries key)
  new_gives entries key has = gives_either HasBytes (list_any (same_key (key_of (out-Value key))) (map entry_key entries)) (misfit TwiceKey) (Ok key) tt has

  added_has : (p : Pair) (qs : List Pair) → OfPair HasBytes p → AllOf (OfPair HasBytes) qs → AllOf (OfPair HasBytes) (add_entry p qs)
  added_has p [] own all = (own, tt)
  added_has p (q ∷ qs) own all = by_test (key_below (entry_key q) (entry_key p)) (added_has p qs own all.1)
    where
      by_test : (b : Bool) → AllOf (OfPair HasBytes) (add_entry p qs) → AllOf (OfPair HasBytes) (cond b (q ∷ add_entry p qs) (p ∷ q ∷ qs))
      by_test true later = (all.0, later)
      by_test false later = (own, all)

  entry_has : (x y : Value) → HasBytes x → HasBytes y → OfPair HasBytes (entry x y)
  entry_has x y key to = subst (λ (f : Pair-F Value Pair). HasBytes f.key × HasBytes f.value) (sym (out-roll-Pair (record { key = x; value = y }))) (key, to)

  entries_give : (key to key' to' : Ty) (i : ℕ) (entries ps : List Pair) → AllOf (OfPair EachProjects) ps → AllOf (OfPair HasBytes) entries
      → Gives (AllOf (OfPair HasBytes)) (project_entries (map projected_entry ps) d key to d' key' to' i entries)
  entries_give key to key' to' i entries [] each all = all
  entries_give key to key' to' i entries (p ∷ ps) each all =
      gives_then HasBytes (AllOf (OfPair HasBytes)) (in_step (2 * i) ((projected_entry p).0 d key d' key' >>= new_key entries))
      (λ x. in_step (2 * i + 1) ((projected_entry p).1 d to d' to') >>= λ y. project_entries (map projected_entry ps) d key to d' key' to' (i + 1) (add_entry (entry x y) entries))
      (gives_step HasBytes (2 * i) ((projected_entry p).0 d key d' key' >>= new_key entries)
      (gives_then HasBytes HasBytes ((projected_entry p).0 d key d' key') (new_key entries)
      (subst (λ (w : Projecting × Projecting). Gives HasBytes (w.0 d key d' key')) (sym (projected_entry_out p)) (each.0.0 d key d' key' defaults)) (λ x has. new_gives entries x has)))
      (λ x has. gives_then HasBytes (AllOf (OfPair HasBytes)) (in_step (2 * i + 1) ((projected_entry p).1 d to d' to'))
      (λ y. project_entries (map projected_entry ps) d key to d' key' to' (i + 1) (add_entry (entry x y) entries))
      (gives_step HasBytes (2 * i + 1) ((projected_entry p).1 d to d' to')
      (subst (λ (w : Projecting × Projecting). Gives HasBytes (w.1 d to d' to')) (sym (projected_entry_out p)) (each.0.1 d to d' to' defaults)))
      (λ y has_to. entries_give key to key' to' (i + 1) (add_entry (entry x y) entries) ps each.1 (added_has (entry x y) entries (entry_has x y has has_to) all)))

  map_gives : (ps : List Pair) → AllOf (OfPair EachProjects) ps → (l l' : TyLayer) → Gives HasBytes (map_under (map projected_entry ps) d l d' l')
  map_gives ps each (ty.Map key to) (ty.Map key' to') =
      gives_then (AllOf (OfPair HasBytes)) HasBytes (project_entries (map projected_entry ps) d key to d' key' to' 0 []) (λ qs. Ok (values.Map qs)) (entries_give key to key' to' 0 [] ps each tt) (λ qs all. map_has qs all)
  map_gives ps each (ty.Map key to) _ = tt
  map_gives ps each _ _ = tt

  -- ---- structs and members

  abbrev SaysBytes : Option (Ty → Read Value) → Type 0
  SaysBytes None = Unit {0}
  SaysBytes (Some says) = (t' : Ty) → Gives HasBytes (says t')

  says_either : (b : Bool) (says : Ty → Read Value) (o : Option (Ty → Read Value)) → ((t' : Ty) → Gives HasBytes (says t')) → SaysBytes o → SaysBytes (cond b (Some says) o)
  says_either true says o here later = here
  says_either false says o here later = later

  held_gives : (tag : ℕ) (ms : List Member) (vs : List Value) → AllOf EachProjects vs → SaysBytes (said_under tag (held d ms (map projected vs) d'))
  held_gives tag [] vs each = tt
  held_gives tag (m ∷ ms) [] each = tt
  held_gives tag (m ∷ ms) (v ∷ vs) each =
      says_either (eqb m.tag tag) (λ t'. projected v d m.ty d' t') (said_under tag (held d ms (map projected vs) d')) (λ t'. each.0 d m.ty d' t' defaults) (held_gives tag ms vs each.1)

  member_gives : (m : Member) → HasBytes m.default → (o : Option (Ty → Read Value)) → SaysBytes o → Gives HasBytes (member_of m o)
  member_gives m default None says = gives_either HasBytes m.require (Err (refusal.Missing (m.tag ∷ []))) (Ok m.default) tt default
  member_gives m default (Some f) says = gives_step HasBytes m.tag (f m.ty) (says m.ty)

  members_give : (ms : List Member) → AllOf (λ (m : Member). HasBytes m.default) ms → (olds : List Member) (vs : List Value) → AllOf EachProjects vs → Gives (AllOf HasBytes) (members_of ms (held d olds (map projected vs) d'))
  members_give [] own olds vs each = tt
  members_give (m ∷ ms) own olds vs each =
      gives_then HasBytes (AllOf HasBytes) (member_of m (said_under m.tag (held d olds (map projected vs) d'))) (λ x. members_of ms (held d olds (map projected vs) d') >>= λ xs. Ok (x ∷ xs))
      (member_gives m own.0 (said_under m.tag (held d olds (map projected vs) d')) (held_gives m.tag olds vs each))
      (λ x has. gives_then (AllOf HasBytes) (AllOf HasBytes) (members_of ms (held d olds (map projected vs) d')) (λ xs. Ok (x ∷ xs)) (members_give ms own.1 olds vs each) (λ xs all. (has, all)))

  struct_gives : (vs : List Value) → AllOf EachProjects vs → (l l' : TyLayer) → Gives HasBytes (struct_under (map projected vs) d l d' l')
  struct_gives vs each (ty.Struct number) (ty.Struct number') =
      gives_then (AllOf HasBytes) HasBytes (members_of (members_at d' number') (held d (members_at d number) (map projected vs) d')) (λ xs. Ok (values.Struct xs))
      (members_give (members_at d' number') (defaults number') (members_at d number) vs each) (λ xs all. struct_has xs all)
  struct_gives vs each (ty.Struct number) _ = tt
  struct_gives vs each _ _ = tt

-- ---- all values

each_all : (vs : List Value) → AllOf Keeps vs → AllOf HasBytes vs → AllOf EachProjects vs
each_all [] each has = tt
each_all (v ∷ vs) each has = (each.0 has.0, each_all vs each.1 has.1)

each_entries : (ps : List Pair) → AllOf (OfPair Keeps) ps → AllOf (OfPair HasBytes) ps → AllOf (OfPair EachProjects) ps
each_entries [] each has = tt
each_entries (p ∷ ps) each has = ((each.0.0 has.0.0, each.0.1 has.0.1), each_entries ps each.1 has.1)

moved : (r other : Read Value) → r ≡ other → Gives HasBytes other → Gives HasBytes r
moved r other is gives = subst (Gives HasBytes) (sym is) gives

value_keeps : (v : Value) → Keeps v
value_keeps v = each_value Keeps (record {
  bool = λ b has d t d' t' defaults. moved _ _ (bool_projected d t d' t' b) (number_gives (bool_number b) (out-Ty t'));
  num = λ n has d t d' t' defaults. moved _ _ (num_projected d t d' t' n) (number_gives n (out-Ty t'));
  text = λ bytes has d t d' t' defaults. moved _ _ (text_projected d t d' t' bytes) (text_gives bytes (text_inside bytes has) (out-Ty t'));
  blob = λ bytes has d t d' t' defaults. moved _ _ (blob_projected d t d' t' bytes) (blob_gives bytes (blob_inside bytes has) (out-Ty t'));
  list = λ vs each has d t d' t' defaults. moved _ _ (list_projected d t d' t' vs) (list_gives d d' defaults vs (each_all vs each (list_inside vs has)) (out-Ty t) (out-Ty t'));
  pairs = λ ps each has d t d' t' defaults. moved _ _ (map_projected d t d' t' ps) (map_gives d d' defaults ps (each_entries ps each (map_inside ps has)) (out-Ty t) (out-Ty t'));
  struct = λ vs each has d t d' t' defaults. moved _ _ (struct_projected d t d' t' vs) (struct_gives d d' defaults vs (each_all vs each (struct_inside vs has)) (out-Ty t) (out-Ty t'));
}) v

all_keep : (vs : List Value) → AllOf HasBytes vs → AllOf EachProjects vs
all_keep [] has = tt
all_keep (v ∷ vs) has = (value_keeps v has.0, all_keep vs has.1)

pub projection_has : (d : Declared) (ms : List Member) (vs : List Value) (d' : Declared) (ms' : List Member) → ((k : ℕ) → AllOf (λ (m : Member). HasBytes m.default) (members_at d' k))
    → AllOf (λ (m : Member). HasBytes m.default) ms' → AllOf HasBytes vs → (got : List Value) → project_members d ms vs d' ms' ≡ Ok got → AllOf HasBytes got
unfolding project_members
projection_has d ms vs d' ms' defaults own has got is =
    gives_ok (AllOf HasBytes) (members_of ms' (held d ms (map projected vs) d')) got (members_give d d' defaults ms' own ms vs (all_keep vs has)) is
