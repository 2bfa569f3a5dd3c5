-- Values whose texts and blobs are bytes, and that what is written for them is bytes.
use Rattle.std.proofs.Common.{◌≡◌, ◌<◌, ◌+◌, ◌*◌, ℕ, zero, suc, ℤ, pos, Bool, true, false, cond, nat_lt, nat_le, ◌&&◌, List, [], ◌∷◌, ◌++◌, length, map, refl, sym, ap, ◌∙◌, subst, arith, lit<, ltb-true, leb-true}
use Rattle.std.specs.Int.{w32, to_be_bytes, byte_at, bytes_high_first, byte_len}
use Rattle.std.specs.List.{list_all}
use Rattle.std.proofs.lemmas.Bool.{and_parts, and_from}
use Rattle.std.proofs.lemmas.List.Elements.{All-from_recursion, All-cons, All-nil}
use Rattle.wire_words.specs.Spelling.{head, spelled_number, spelled_size, spelled, spelled_values, spelled_pairs, spelled_fields, count_values, count_pairs, shortest}
use Rattle.wire_words.specs.Tree.{WireValue, string1, string4, WireFields, no_fields}
use Rattle.tars_model.specs.Declarations.{Declared, nothing_declared, members_at}
use Rattle.tars_model.specs.Types.{TyLayer}
use Rattle.tars_model.specs.declared.member.Member.{Member}
use Rattle.tars_model.specs.declared.ty.Ty.{Ty, out-Ty, Int}
use Rattle.tars_model.specs.declared.ty.Ty.TheOpen as ty
use Rattle.tars_model.specs.declared.value.Value.{Value, Num}
use Rattle.tars_model.specs.declared.value.Value.TheOpen as value
use Rattle.tars_model.specs.declared.value.Value.TheVariants as values
use Rattle.tars_model.specs.declared.value.Value.TheVariants.{outs-Bool, outs-Num, outs-Text, outs-Blob, outs-List, outs-Map, outs-Struct}
use Rattle.tars_model.specs.declared.value.Pair.{Pair, out-Pair}
use Rattle.tars_codec.specs.Written.{Writing, bool_number, wire_elements, wire_entries, wire_members, wire_list, wire_map, wire_struct, wire_value, wire_entry, written}
use Rattle.tars_codec.proofs.CallerLemmas.{bool_wire, num_wire, text_wire, blob_wire, list_wire, map_wire, struct_wire}
use Rattle.tars_codec.proofs.Layers.{wire_entry_out}
use Rattle.tars_versions.proofs.Induction.{AllOf, OfPair, each_value}
use Rattle.value_text.specs.Printed.{are_bytes, has_bytes, entry_bytes}
use Rattle.value_text.proofs.PrintedSpells.{bytes_at, entry_bytes_out}
use Rattle.wire_reading.specs.Readings.{AreBytes}
use Rattle.rpc_packet.proofs.FrameBytes.{both_bytes, num_bytes}

-- ---- which values have bytes

abbrev pub HasBytes : Value → Type 0
HasBytes v = has_bytes v ≡ true

pub num_has : (n : ℤ) → HasBytes (values.Num n)
num_has n = bytes_at (values.Num n) (value.Num n) (outs-Num n)

pub bool_has : (b : Bool) → HasBytes (values.Bool b)
bool_has b = bytes_at (values.Bool b) (value.Bool b) (outs-Bool b)

text_is : (bytes : List ℕ) → has_bytes (values.Text bytes) ≡ are_bytes bytes
text_is bytes = bytes_at (values.Text bytes) (value.Text bytes) (outs-Text bytes)

blob_is : (bytes : List ℕ) → has_bytes (values.Blob bytes) ≡ are_bytes bytes
blob_is bytes = bytes_at (values.Blob bytes) (value.Blob bytes) (outs-Blob bytes)

list_is : (vs : List Value) → has_bytes (values.List vs) ≡ list_all (λ b. b) (map has_bytes vs)
list_is vs = bytes_at (values.List vs) (value.List vs) (outs-List vs)

struct_is : (vs : List Value) → has_bytes (values.Struct vs) ≡ list_all (λ b. b) (map has_bytes vs)
struct_is vs = bytes_at (values.Struct vs) (value.Struct vs) (outs-Struct vs)

map_is : (ps : List Pair) → has_bytes (values.Map ps) ≡ list_all (λ (p : Bool × Bool). p.0 && p.1) (map entry_bytes ps)
map_is ps = bytes_at (values.Map ps) (value.Map ps) (outs-Map ps)

-- of each value of a list, and of each key and value of entries
all_values : (vs : List Value) → list_all (λ b. b) (map has_bytes vs) ≡ true → AllOf HasBytes vs
all_values [] all = tt
all_values (v ∷ vs) all = let parts = and_parts (has_bytes v) _ all in (parts.0, all_values vs parts.1)

values_all : (vs : List Value) → AllOf HasBytes vs → list_all (λ b. b) (map has_bytes vs) ≡ true
values_all [] all = refl
values_all (v ∷ vs) all = and_from (has_bytes v) _ all.0 (values_all vs all.1)

entry_is : (p : Pair) → (entry_bytes p).0 && (entry_bytes p).1 ≡ has_bytes (out-Pair p).key && has_bytes (out-Pair p).value
entry_is p = ap (λ (e : Bool × Bool). e.0 && e.1) (entry_bytes_out p)

all_entries : (ps : List Pair) → list_all (λ (p : Bool × Bool). p.0 && p.1) (map entry_bytes ps) ≡ true → AllOf (OfPair HasBytes) ps
all_entries [] all = tt
all_entries (p ∷ ps) all =
    let parts = and_parts ((entry_bytes p).0 && (entry_bytes p).1) _ all in
    (and_parts (has_bytes (out-Pair p).key) (has_bytes (out-Pair p).value) (sym (entry_is p) ∙ parts.0), all_entries ps parts.1)

entries_all : (ps : List Pair) → AllOf (OfPair HasBytes) ps → list_all (λ (p : Bool × Bool). p.0 && p.1) (map entry_bytes ps) ≡ true
entries_all [] all = refl
entries_all (p ∷ ps) all =
    and_from ((entry_bytes p).0 && (entry_bytes p).1) _ (entry_is p ∙ and_from (has_bytes (out-Pair p).key) (has_bytes (out-Pair p).value) all.0.0 all.0.1) (entries_all ps all.1)

byte_lists : (bytes : List ℕ) → are_bytes bytes ≡ true → AreBytes bytes
byte_lists [] all = All-nil (λ byte. byte < 256)
byte_lists (b ∷ bytes) all =
    let parts = and_parts (nat_lt b 256) (are_bytes bytes) all in All-cons (λ byte. byte < 256) b bytes (ltb-true b 256 parts.0) (byte_lists bytes parts.1)

pub text_has : (bytes : List ℕ) → are_bytes bytes ≡ true → HasBytes (values.Text bytes)
text_has bytes all = text_is bytes ∙ all

pub blob_has : (bytes : List ℕ) → are_bytes bytes ≡ true → HasBytes (values.Blob bytes)
blob_has bytes all = blob_is bytes ∙ all

pub list_has : (vs : List Value) → AllOf HasBytes vs → HasBytes (values.List vs)
list_has vs all = list_is vs ∙ values_all vs all

pub struct_has : (vs : List Value) → AllOf HasBytes vs → HasBytes (values.Struct vs)
struct_has vs all = struct_is vs ∙ values_all vs all

pub map_has : (ps : List Pair) → AllOf (OfPair HasBytes) ps → HasBytes (values.Map ps)
map_has ps all = map_is ps ∙ entries_all ps all

pub text_inside : (bytes : List ℕ) → HasBytes (values.Text bytes) → are_bytes bytes ≡ true
text_inside bytes has = sym (text_is bytes) ∙ has

pub blob_inside : (bytes : List ℕ) → HasBytes (values.Blob bytes) → are_bytes bytes ≡ true
blob_inside bytes has = sym (blob_is bytes) ∙ has

pub list_inside : (vs : List Value) → HasBytes (values.List vs) → AllOf HasBytes vs
list_inside vs has = all_values vs (sym (list_is vs) ∙ has)

pub struct_inside : (vs : List Value) → HasBytes (values.Struct vs) → AllOf HasBytes vs
struct_inside vs has = all_values vs (sym (struct_is vs) ∙ has)

pub map_inside : (ps : List Pair) → HasBytes (values.Map ps) → AllOf (OfPair HasBytes) ps
map_inside ps has = all_entries ps (sym (map_is ps) ∙ has)

-- ---- what is written for them

no_bytes : AreBytes []
no_bytes = All-nil (λ byte. byte < 256)

head_bytes : (tag type : ℕ) → tag < 256 → type < 16 → AreBytes (head tag type)
unfolding head
head_bytes tag type small known = by_test (nat_lt tag 15) refl
  where
    by_test : (b : Bool) → nat_lt tag 15 ≡ b → AreBytes (cond b ((tag * 16 + type) ∷ []) ((240 + type) ∷ tag ∷ []))
    by_test true e =
        let low = ltb-true tag 15 e in
        All-from_recursion (λ byte. byte < 256) ((tag * 16 + type) ∷ []) (omega (arith, low, known), tt)
    by_test false e = All-from_recursion (λ byte. byte < 256) ((240 + type) ∷ tag ∷ []) (omega (arith, known), (small, tt))

number_bytes : (tag : ℕ) → tag < 256 → (n : ℤ) → AreBytes (spelled_number tag (shortest n))
number_bytes tag small n = subst (λ (w : WireValue). AreBytes (spelled tag w)) (num_wire (Num n) nothing_declared Int n refl) (num_bytes tag small nothing_declared Int n)

size_bytes : (n : ℕ) → AreBytes (spelled_size n)
unfolding spelled_size
size_bytes n = number_bytes 0 (lit< tt) (pos n)

byte_small : (i n : ℕ) → byte_at i n < 256
byte_small zero n = omega arith
byte_small (suc i) n = omega arith

high_first_bytes : (k n : ℕ) → AreBytes (bytes_high_first k n)
high_first_bytes zero n = no_bytes
high_first_bytes (suc k) n = All-cons (λ byte. byte < 256) (byte_at k n) (bytes_high_first k n) (byte_small k n) (high_first_bytes k n)

-- the tags of members are bytes
abbrev pub IsTagged : Member → Type 0
IsTagged m = m.tag < 256

abbrev SpellsBytes : ℕ → WireValue → Type 0
SpellsBytes tag v = AreBytes (spelled tag v)

module _ (d : Declared) (tagged : (k : ℕ) → AllOf IsTagged (members_at d k)) where
  abbrev WritesBytes : Value → Type 0
  WritesBytes v = HasBytes v → (t : Ty) (tag : ℕ) → tag < 256 → SpellsBytes tag (wire_value v d t)

  abbrev WritesOwn : Value → Type 0
  WritesOwn v = (t : Ty) (tag : ℕ) → tag < 256 → SpellsBytes tag (wire_value v d t)

  bool_writes : (b : Bool) → WritesBytes (values.Bool b)
  bool_writes b has t tag small = subst (SpellsBytes tag) (sym (bool_wire (values.Bool b) d t b refl)) (number_bytes tag small (bool_number b))

  num_writes : (n : ℤ) → WritesBytes (values.Num n)
  num_writes n has t tag small = subst (SpellsBytes tag) (sym (num_wire (values.Num n) d t n refl)) (number_bytes tag small n)

  text_writes : (bytes : List ℕ) → WritesBytes (values.Text bytes)
  text_writes bytes has t tag small = subst (SpellsBytes tag) (sym (text_wire (values.Text bytes) d t bytes refl)) (by_test (nat_le (length bytes) 255) refl)
    where
      all : AreBytes bytes
      all = byte_lists bytes (text_inside bytes has)

      by_test : (b : Bool) → nat_le (length bytes) 255 ≡ b → SpellsBytes tag (cond b (string1 bytes) (string4 bytes))
      by_test true e =
          let short = leb-true (length bytes) 255 e in
          both_bytes (head tag 6) (length bytes ∷ bytes) (head_bytes tag 6 small (lit< tt)) (All-cons (λ byte. byte < 256) (length bytes) bytes (omega (arith, short)) all)
      by_test false e =
          both_bytes (head tag 7 ++ to_be_bytes w32 (length bytes)) bytes
          (both_bytes (head tag 7) (to_be_bytes w32 (length bytes)) (head_bytes tag 7 small (lit< tt)) (high_first_bytes (byte_len w32) (length bytes))) all

  blob_writes : (bytes : List ℕ) → WritesBytes (values.Blob bytes)
  blob_writes bytes has t tag small =
      subst (SpellsBytes tag) (sym (blob_wire (values.Blob bytes) d t bytes refl))
      (both_bytes (head tag 13 ++ head 0 0 ++ spelled_size (length bytes)) bytes
      (both_bytes (head tag 13 ++ head 0 0) (spelled_size (length bytes)) (both_bytes (head tag 13) (head 0 0) (head_bytes tag 13 small (lit< tt)) (head_bytes 0 0 (lit< tt) (lit< tt))) (size_bytes (length bytes)))
      (byte_lists bytes (blob_inside bytes has)))

  -- ---- what stands inside others

  sized_bytes : (tag type count : ℕ) (inside : List ℕ) → tag < 256 → type < 16 → AreBytes inside → AreBytes (head tag type ++ spelled_size count ++ inside)
  sized_bytes tag type count inside small known all =
      both_bytes (head tag type ++ spelled_size count) inside (both_bytes (head tag type) (spelled_size count) (head_bytes tag type small known) (size_bytes count)) all

  elements_bytes : (of : Ty) (vs : List Value) → AllOf WritesOwn vs → AreBytes (spelled_values (wire_elements d of (map wire_value vs)))
  elements_bytes of [] all = no_bytes
  elements_bytes of (v ∷ vs) all =
      both_bytes (spelled 0 (wire_value v d of)) (spelled_values (wire_elements d of (map wire_value vs))) (all.0 of 0 (lit< tt)) (elements_bytes of vs all.1)

  list_bytes : (vs : List Value) → AllOf WritesOwn vs → (tag : ℕ) → tag < 256 → (l : TyLayer) → SpellsBytes tag (wire_list (map wire_value vs) d l)
  list_bytes vs all tag small (ty.Vector of) =
      sized_bytes tag 9 (count_values (wire_elements d of (map wire_value vs))) (spelled_values (wire_elements d of (map wire_value vs))) small (lit< tt) (elements_bytes of vs all)
  list_bytes vs all tag small _ = sized_bytes tag 9 0 [] small (lit< tt) no_bytes

  abbrev EntryWrites : Pair → Type 0
  EntryWrites p = WritesOwn (out-Pair p).key × WritesOwn (out-Pair p).value

  entries_bytes : (key to : Ty) (ps : List Pair) → AllOf EntryWrites ps → AreBytes (spelled_pairs (wire_entries d key to (map wire_entry ps)))
  entries_bytes key to [] all = no_bytes
  entries_bytes key to (p ∷ ps) all =
      both_bytes (spelled 0 ((wire_entry p).0 d key) ++ spelled 1 ((wire_entry p).1 d to)) (spelled_pairs (wire_entries d key to (map wire_entry ps)))
      (both_bytes (spelled 0 ((wire_entry p).0 d key)) (spelled 1 ((wire_entry p).1 d to))
      (subst (λ (w : Writing × Writing). SpellsBytes 0 (w.0 d key)) (sym (wire_entry_out p)) (all.0.0 key 0 (lit< tt)))
      (subst (λ (w : Writing × Writing). SpellsBytes 1 (w.1 d to)) (sym (wire_entry_out p)) (all.0.1 to 1 (lit< tt))))
      (entries_bytes key to ps all.1)

  map_bytes : (ps : List Pair) → AllOf EntryWrites ps → (tag : ℕ) → tag < 256 → (l : TyLayer) → SpellsBytes tag (wire_map (map wire_entry ps) d l)
  map_bytes ps all tag small (ty.Map key to) =
      sized_bytes tag 8 (count_pairs (wire_entries d key to (map wire_entry ps))) (spelled_pairs (wire_entries d key to (map wire_entry ps))) small (lit< tt) (entries_bytes key to ps all)
  map_bytes ps all tag small _ = sized_bytes tag 8 0 [] small (lit< tt) no_bytes

  members_bytes : (ms : List Member) (vs : List Value) → AllOf IsTagged ms → AllOf WritesOwn vs → AreBytes (spelled_fields (wire_members d ms (map wire_value vs)))
  members_bytes [] vs tags all = no_bytes
  members_bytes (m ∷ ms) [] tags all = no_bytes
  members_bytes (m ∷ ms) (v ∷ vs) tags all =
      both_bytes (spelled m.tag (wire_value v d m.ty)) (spelled_fields (wire_members d ms (map wire_value vs))) (all.0 m.ty m.tag tags.0) (members_bytes ms vs tags.1 all.1)

  fields_inside : (tag : ℕ) (fs : WireFields) → tag < 256 → AreBytes (spelled_fields fs) → AreBytes (head tag 10 ++ spelled_fields fs ++ head 0 11)
  fields_inside tag fs small all =
      both_bytes (head tag 10 ++ spelled_fields fs) (head 0 11) (both_bytes (head tag 10) (spelled_fields fs) (head_bytes tag 10 small (lit< tt)) all) (head_bytes 0 11 (lit< tt) (lit< tt))

  struct_bytes : (vs : List Value) → AllOf WritesOwn vs → (tag : ℕ) → tag < 256 → (l : TyLayer) → SpellsBytes tag (wire_struct (map wire_value vs) d l)
  struct_bytes vs all tag small (ty.Struct number) =
      fields_inside tag (wire_members d (members_at d number) (map wire_value vs)) small (members_bytes (members_at d number) vs (tagged number) all)
  struct_bytes vs all tag small _ = fields_inside tag no_fields small no_bytes

  -- ---- all values

  own_all : (vs : List Value) → AllOf WritesBytes vs → AllOf HasBytes vs → AllOf WritesOwn vs
  own_all [] each has = tt
  own_all (v ∷ vs) each has = (each.0 has.0, own_all vs each.1 has.1)

  own_entries : (ps : List Pair) → AllOf (OfPair WritesBytes) ps → AllOf (OfPair HasBytes) ps → AllOf EntryWrites ps
  own_entries [] each has = tt
  own_entries (p ∷ ps) each has = ((each.0.0 has.0.0, each.0.1 has.0.1), own_entries ps each.1 has.1)

  value_writes : (v : Value) → WritesBytes v
  value_writes v = each_value WritesBytes (record {
    bool = bool_writes;
    num = num_writes;
    text = text_writes;
    blob = blob_writes;
    list = λ vs each has t tag small. subst (SpellsBytes tag) (sym (list_wire (values.List vs) d t vs refl)) (list_bytes vs (own_all vs each (list_inside vs has)) tag small (out-Ty t));
    pairs = λ ps each has t tag small. subst (SpellsBytes tag) (sym (map_wire (values.Map ps) d t ps refl)) (map_bytes ps (own_entries ps each (map_inside ps has)) tag small (out-Ty t));
    struct = λ vs each has t tag small. subst (SpellsBytes tag) (sym (struct_wire (values.Struct vs) d t vs refl)) (struct_bytes vs (own_all vs each (struct_inside vs has)) tag small (out-Ty t));
  }) v

  all_write : (vs : List Value) → AllOf HasBytes vs → AllOf WritesOwn vs
  all_write [] has = tt
  all_write (v ∷ vs) has = (value_writes v has.0, all_write vs has.1)

  pub written_has : (ms : List Member) (vs : List Value) → AllOf IsTagged ms → AllOf HasBytes vs → AreBytes (written d ms vs)
  unfolding written
  written_has ms vs tags has = members_bytes ms vs tags (all_write vs has)
