-- What the contents of a field say under a type fits it.
use Rattle.std.proofs.Common.{◌≡◌, ◌<◌, ◌^◌, ◌+◌, ℕ, suc, Bool, true, false, cond, eqb, List, [], ◌∷◌, length, Option, Some, Ok, refl, sym, ap, subst, arith}
use Rattle.std.specs.List.{All, list_all}
use Rattle.std.specs.Int.{w32, from_be_bytes}
use Rattle.facts.specs.ResultSteps.{◌>>=◌}
use Rattle.facts.proofs.ResultLaws.{bind_gave}
use Rattle.wire_words.specs.Tree.{WireValue, WireValues, WirePairs, WireFields}
use Rattle.tars_model.specs.Declarations.{Declared, members_at}
use Rattle.tars_model.specs.Values.{told, fit_members}
use Rattle.tars_model.specs.declared.member.Member.{Member}
use Rattle.tars_model.specs.declared.ty.Ty.{Ty}
use Rattle.tars_model.specs.declared.value.Value.{Value}
use Rattle.tars_model.specs.declared.value.Pair.{Pair}
use Rattle.tars_wire.specs.declared.wire_type.WireType.{WireType}
use Rattle.tars_wire.specs.Spelled.{Bytes, no_bytes, byte, Contents, is_whole, is_float, is_double, is_string1, is_string4, is_simple_list, is_list, is_map, is_struct, Values, no_more_values, one_value, Pairs, no_more_pairs, one_pair, Fields, no_more_fields, one_field}
use Rattle.tars_decode.specs.Decoding.{DefaultFits}
use Rattle.tars_decode.specs.Reads.{Read, in_step, says, all_say, pairs_say, sayings, said_under, reads}
use Rattle.tars_decode.proofs.Fitting.Numbers.{number_fits}
use Rattle.tars_decode.proofs.Fitting.Parts.{ok_is, step_gave, size_short, text_fits, blob_fits, list_fits, map_fits, struct_fits, SaidFits, members_fit, EntriesFit, one_entry}

-- what is taken for absent members of structs fits
abbrev pub StructDefaults : Declared → Type 0
StructDefaults d = (number : ℕ) → All (DefaultFits d) (members_at d number)

-- a length of four bytes
four : {bytes w rest : List ℕ} → Bytes bytes w rest → length bytes ≡ 4 → from_be_bytes w32 bytes < 2 ^ 32
four (byte a (byte b (byte c (byte e no_bytes)))) k = omega arith
four no_bytes k = absurd (omega arith)
four (byte a no_bytes) k = absurd (omega arith)
four (byte a (byte b no_bytes)) k = absurd (omega arith)
four (byte a (byte b (byte c no_bytes))) k = absurd (omega arith)
four (byte a (byte b (byte c (byte e (byte f more))))) k = absurd (omega arith)

abbrev ok_pairs : List Pair → Read (List Pair)
ok_pairs ps = Ok ps

record ValuesFit (d : Declared) (of : Ty) (vs : List Value) (n : ℕ) : Type 0 where
  fit : list_all (λ v. (told v).fits d of) vs ≡ true
  count : length vs ≡ n

none_fit : (d : Declared) (of : Ty) (xs : List Value) → all_say Rattle.wire_words.specs.Tree.no_values d of 0 ≡ Ok xs → ValuesFit d of xs 0
none_fit d of xs e = subst (λ vs. ValuesFit d of vs 0) (ok_is [] xs e) (record { fit = refl; count = refl })

one_fits : (d : Declared) (of : Ty) (i n : ℕ) (first : Read Value) (others : Read (List Value)) (xs : List Value) → ((x : Value) → first ≡ Ok x → (told x).fits d of ≡ true) → ((vs : List Value) → others ≡ Ok vs → ValuesFit d of vs n) → (in_step i first >>= λ x. others >>= λ xs. Ok (x ∷ xs)) ≡ Ok xs → ValuesFit d of xs (suc n)
one_fits d of i n first others xs fits later e =
    let g = bind_gave (in_step i first) (λ x. others >>= λ xs. Ok (x ∷ xs)) xs e in
    let h = bind_gave others (λ xs. Ok (g.0 ∷ xs)) xs g.2 in
    let f = fits g.0 (step_gave i first g.0 g.1) in
    let l = later h.0 h.1 in
    subst (λ vs. ValuesFit d of vs (suc n)) (ok_is (g.0 ∷ h.0) xs h.2) (record { fit = rw (f, l.fit) refl; count = ap suc l.count })

some_is : (f g : Ty → Read Value) → Some f ≡ Some g → f ≡ g
some_is f g e = cc

-- one more key, or none
within : {n : ℕ} (ps : List Pair) → length ps ≡ n + 0 → n < 2 ^ 31 → length ps < 2 ^ 31
within ps e lt = omega arith

no_more : (d : Declared) (key to : Ty) (entries qs : List Pair) (size : ℕ) → EntriesFit d key to entries size → Ok entries ≡ ok_pairs qs → EntriesFit d key to qs (0 + size)
no_more d key to entries qs size so_far e = subst (λ c. EntriesFit d key to qs c) zero_add (subst (λ ps. EntriesFit d key to ps size) (ok_is entries qs e) so_far)
  where
    zero_add : size ≡ 0 + size
    zero_add = omega arith

said_of : (tag tag' : ℕ) (f g : Ty → Read Value) (o : Option (Ty → Read Value)) (P : (Ty → Read Value) → Type 0) (b : Bool) → cond b (Some f) o ≡ Some g → P f → (o ≡ Some g → P g) → P g
said_of tag tag' f g o P true e here later = subst P (some_is f g e) here
said_of tag tag' f g o P false e here later = later e

mutual
  pub contents_fit : {room : ℕ} {type : WireType} {v : WireValue} {w rest : List ℕ} → Contents room type v w rest → (d : Declared) → StructDefaults d → (t : Ty) (x : Value) → says v d t ≡ Ok x → (told x).fits d t ≡ true
  contents_fit (is_whole number) d defaults t x e = number_fits number d t x e
  contents_fit (is_float bytes f) d defaults t x e = absurd cc
  contents_fit (is_double bytes f) d defaults t x e = absurd cc
  contents_fit (is_string1 {bytes = bytes} fits bs f) d defaults t x e = text_fits d t x bytes (omega arith) e
  contents_fit (is_string4 {bytes = bytes} size g bs f) d defaults t x e = let k = four size g in text_fits d t x bytes (omega arith) e
  contents_fit (is_simple_list {bytes = bytes} head size bs f) d defaults t x e = let k = size_short size in blob_fits d t x bytes (omega arith) e
  contents_fit (is_list {values = vs} some size values) d defaults t x e =
      list_fits d t x (λ of. all_say vs d of 0) (λ of xs g. let f = values_fit values d defaults of 0 xs g in let k = size_short size in (subst (λ c. c < 2 ^ 31) (sym f.count) k, f.fit)) e
  contents_fit (is_map {pairs = ps} some size pairs) d defaults t x e =
      map_fits d t x (λ key to. pairs_say ps d key to 0 []) (λ key to qs g. let f = pairs_fit pairs d defaults key to 0 [] qs 0 (record { rising = refl; fit = refl; count = refl }) g in let k = size_short size in (within qs f.count k, f.rising, f.fit)) e
  contents_fit (is_struct {fields = fs} some fields close) d defaults t x e =
      struct_fits d t x (sayings fs d) (λ number vs g. members_fit d (sayings fs d) (members_at d number) vs (fields_fit fields d defaults) (defaults number) g) e

  values_fit : {room n : ℕ} {vs : WireValues} {w rest : List ℕ} → Values room n vs w rest → (d : Declared) → StructDefaults d → (of : Ty) (i : ℕ) (xs : List Value) → all_say vs d of i ≡ Ok xs → ValuesFit d of xs n
  values_fit no_more_values d defaults of i xs e = none_fit d of xs e
  values_fit (one_value {n = n} {v = v} {values = vs} head contents values) d defaults of i xs e =
      one_fits d of i n (says v d of) (all_say vs d of (i + 1)) xs (λ x g. contents_fit contents d defaults of x g) (λ ys g. values_fit values d defaults of (i + 1) ys g) e

  pairs_fit : {room n : ℕ} {ps : WirePairs} {w rest : List ℕ} → Pairs room n ps w rest → (d : Declared) → StructDefaults d → (key to : Ty) (i : ℕ) (entries qs : List Pair) (size : ℕ) → EntriesFit d key to entries size → pairs_say ps d key to i entries ≡ Ok qs → EntriesFit d key to qs (n + size)
  pairs_fit no_more_pairs d defaults key to i entries qs size so_far e = no_more d key to entries qs size so_far e
  pairs_fit (one_pair {n = n} {key = k} {v = v} {pairs = ps} key_head key_contents head contents pairs) d defaults key to i entries qs size so_far e =
      one_entry d key to i entries qs size n (says k d key) (says v d to) (λ rs. pairs_say ps d key to (i + 1) rs) (λ x g. contents_fit key_contents d defaults key x g) (λ x g. contents_fit contents d defaults to x g) (λ rs f g. pairs_fit pairs d defaults key to (i + 1) rs qs (suc size) f g) so_far e

  fields_fit : {room from : ℕ} {fs : WireFields} {w rest : List ℕ} → Fields room from fs w rest → (d : Declared) → StructDefaults d → SaidFits d (sayings fs d)
  fields_fit no_more_fields d defaults tag f is = absurd cc
  fields_fit (one_field {tag = tag'} {v = v} {fields = fs} head above contents fields) d defaults tag f is =
      said_of tag tag' (λ t. says v d t) f (said_under tag (sayings fs d)) (λ g. (t : Ty) (x : Value) → g t ≡ Ok x → (told x).fits d t ≡ true) (eqb tag' tag) is (λ t x e. contents_fit contents d defaults t x e) (λ later t x e. fields_fit fields d defaults tag f later t x e)

pub body_fits : {room from : ℕ} {fs : WireFields} {w rest : List ℕ} → Fields room from fs w rest → (d : Declared) (members : List Member) (xs : List Value) → StructDefaults d → All (DefaultFits d) members → reads d members fs ≡ Ok xs → fit_members d members xs ≡ true
unfolding reads
body_fits {fs = fs} fields d members xs structs defaults e = members_fit d (sayings fs d) members xs (fields_fit fields d structs) defaults e
