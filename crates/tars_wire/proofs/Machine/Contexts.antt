-- What stands in a context is a head that may stand there, and what it calls for after it; and back.
use Rattle.std.proofs.Common.{◌≡◌, ℕ, suc, ◌+◌, Bool, true, false, cond, eqb, ltb, List, [], ◌∷◌, None, refl, sym, subst}
use Rattle.std.specs.Prelude.{◌&&◌}
use Rattle.wire_words.specs.Tree.{WireNumber, WireValue, WireValues, value, WirePairs, pair, WireFields, no_fields, field}
use Rattle.tars_wire.specs.declared.wire_type.WireType.{WireType}
use Rattle.tars_wire.specs.declared.wire_type.WireType.TheVariants as wire
use Rattle.tars_wire.specs.declared.head_context.HeadContext.TheVariants as heads
use Rattle.tars_wire.specs.Heads.{MAX_DEPTH, opens, is_end, Head}
use Rattle.tars_wire.specs.Spelled.{Rules, FixedHead, Number, is_zero_tag, is_int1, is_int2, is_int4, is_int8, IsSizeBy, ContentsBy, ValuesBy, one_value, PairsBy, one_pair, FieldsBy, no_more_fields, one_field}
use Rattle.tars_wire.specs.MachineSteps.{not, is_size, is_int1 as is_int1_type, wrong_tag, order_fault, takes, tag_fault, is_full, is_deep, of_values, of_pairs, Context, in_struct, an_element, a_key, its_value, a_size, simple_head, head_context, Part, head_of, counted, contents, after}
use Rattle.tars_wire.proofs.Grammar.Types.{not_end}
use Rattle.tars_wire.proofs.Machine.Meaning.{InContext, Parts, Form, Body, body_after}
use Rattle.tars_wire.proofs.Machine.Counts.{counted_there, counted_back, size_there, size_back}
use Rattle.tars_wire.proofs.Machine.Forms.{room_left, contents_there, contents_back, head_fits, above, not_last, from_order, tag_there, tag_back}
use Rattle.tars_wire.proofs.TestLemmas.{false_true}

-- what comes after a head in a context
abbrev pub Following : Rules → Context → List Part → (List ℕ → Type 0) → WireType → ℕ → List ℕ → Type 0
Following rules context below After type tag v = Parts rules (after context tag type below) v After

struct_form : (rules : Rules) {room from : ℕ} {fs : WireFields} {w mid : List ℕ} (rest : List ℕ) (below : List Part) (After : List ℕ → Type 0) → FieldsBy rules room from fs w mid → FixedHead rules.fixed_tags 0 wire.StructEnd mid rest → Parts rules below rest After → Form rules (heads.Struct from room) w (Following rules (in_struct from room) below After)
unfolding takes tag_fault is_full is_deep
struct_form rules rest below After no_more_fields close k =
    let at = tag_there rules.fixed_tags close in
    record { type = wire.StructEnd; tag = at.tag; rest = rest; head = at.head; taken = refl; tag_fits = at.fits; not_full = refl; not_deep = refl; following = k }
struct_form rules {room = room} {from = from} {mid = mid} rest below After (one_field {tag = tag} {type = type} {fields = fs} {following = following} {next = next} head le contents_here fields) close k =
    let P : Bool → Type 0 = λ b. Parts rules (cond b below (contents room type (head_of (in_struct (tag + 1) room) ∷ below))) following After in
    record {
      type = type;
      tag = tag;
      rest = following;
      head = head;
      taken = refl;
      tag_fits = rw (not_end contents_here) (above rules.rising_tags from tag le);
      not_full = rw (not_end contents_here) (not_last rules.rising_tags from tag le (head_fits head));
      not_deep = room_left rules contents_here;
      following = subst P (sym (not_end contents_here)) (contents_there rules contents_here (head_of (in_struct (tag + 1) room) ∷ below) After (fs, mid, rest, fields, close, k));
    }

-- an element, a key or a map's value, and what comes after its head
item_form : (rules : Rules) {wanted room : ℕ} {type : WireType} {v : WireValue} {w mid next : List ℕ} (Then : WireType → ℕ → List ℕ → Type 0) → FixedHead rules.fixed_tags wanted type w mid → ContentsBy rules room type v mid next → ((tag : ℕ) → Then type tag mid) → Form rules (heads.Item wanted room) w Then
unfolding takes tag_fault is_full is_deep
item_form rules {type = type} {mid = mid} Then head contents_here goes_on =
    let at = tag_there rules.fixed_tags head in
    record {
      type = type;
      tag = at.tag;
      rest = mid;
      head = at.head;
      taken = rw (not_end contents_here) refl;
      tag_fits = at.fits;
      not_full = refl;
      not_deep = room_left rules contents_here;
      following = goes_on at.tag;
    }

element_form : (rules : Rules) {room more : ℕ} {vs : WireValues} {w rest : List ℕ} (below : List Part) (After : List ℕ → Type 0) → ValuesBy rules room (suc more) vs w rest → Parts rules below rest After → Form rules (heads.Item 0 room) w (Following rules (an_element more room) below After)
element_form rules {room = room} {more = more} {rest = rest} below After (one_value {values = vs} {next = next} head contents_here values) k =
    item_form rules (Following rules (an_element more room) below After) head contents_here
    (λ tag. contents_there rules contents_here (counted (of_values room) more below) After (counted_there rules (of_values room) more next below After (vs, rest, values, k)))

key_form : (rules : Rules) {room more : ℕ} {ps : WirePairs} {w rest : List ℕ} (below : List Part) (After : List ℕ → Type 0) → PairsBy rules room (suc more) ps w rest → Parts rules below rest After → Form rules (heads.Item 0 room) w (Following rules (a_key more room) below After)
key_form rules {room = room} {more = more} {rest = rest} below After (one_pair {type = type} {v = v} {pairs = ps} {following = following} {next = next} key_head key head contents_here pairs) k =
    item_form rules (Following rules (a_key more room) below After) key_head key
    (λ tag. contents_there rules key (head_of (its_value more room) ∷ below) After (type, v, following, next, head, contents_here, (ps, rest, pairs, k)))

size_type : (sizes : Bool) {type : WireType} {number : WireNumber} {w mid : List ℕ} (n : ℕ) → Number type number w mid → IsSizeBy sizes number n → is_size type ≡ true
size_type sizes n is_zero_tag e = refl
size_type sizes n (is_int1 bytes size) e = refl
size_type sizes n (is_int2 bytes size) e = refl
size_type sizes n (is_int4 bytes size) e = refl
size_type sizes n (is_int8 bytes size) e = absurd e

pub context_form : (rules : Rules) (context : Context) (w : List ℕ) (below : List Part) (After : List ℕ → Type 0) → InContext rules context w (λ v. Parts rules below v After) → Form rules (head_context context) w (Following rules context below After)
unfolding takes tag_fault is_full is_deep
context_form rules (in_struct from room) w below After x = struct_form rules x.2 below After x.3 x.4 x.5
context_form rules (an_element more room) w below After x = element_form rules below After x.2 x.3
context_form rules (a_key more room) w below After x = key_form rules below After x.2 x.3
context_form rules (its_value more room) w below After x =
    item_form rules (Following rules (its_value more room) below After) x.4 x.5
    (λ tag. contents_there rules x.5 (counted (of_pairs room) more below) After (counted_there rules (of_pairs room) more x.3 below After x.6))
context_form rules (a_size kind) w below After x =
    let at = tag_there rules.fixed_tags x.2.head in
    record {
      type = x.2.type;
      tag = at.tag;
      rest = x.2.following;
      head = at.head;
      taken = size_type rules.sizes x.0 x.2.contents x.2.size;
      tag_fits = at.fits;
      not_full = refl;
      not_deep = refl;
      following = size_there rules kind x.0 below After x.2.contents x.2.size x.3;
    }
context_form rules simple_head w below After x =
    let at = tag_there rules.fixed_tags x.1 in
    record { type = wire.Int1; tag = at.tag; rest = x.0; head = at.head; taken = refl; tag_fits = at.fits; not_full = refl; not_deep = refl; following = x.2 }

end_type : (type : WireType) → is_end type ≡ true → type ≡ wire.StructEnd
end_type wire.Int1 e = absurd (false_true e)
end_type wire.Int2 e = absurd (false_true e)
end_type wire.Int4 e = absurd (false_true e)
end_type wire.Int8 e = absurd (false_true e)
end_type wire.Float e = absurd (false_true e)
end_type wire.Double e = absurd (false_true e)
end_type wire.String1 e = absurd (false_true e)
end_type wire.String4 e = absurd (false_true e)
end_type wire.Map e = absurd (false_true e)
end_type wire.List e = absurd (false_true e)
end_type wire.StructBegin e = absurd (false_true e)
end_type wire.StructEnd e = refl
end_type wire.ZeroTag e = absurd (false_true e)
end_type wire.SimpleList e = absurd (false_true e)

int1_type : (type : WireType) → is_int1_type type ≡ true → type ≡ wire.Int1
int1_type wire.Int1 e = refl
int1_type wire.Int2 e = absurd (false_true e)
int1_type wire.Int4 e = absurd (false_true e)
int1_type wire.Int8 e = absurd (false_true e)
int1_type wire.Float e = absurd (false_true e)
int1_type wire.Double e = absurd (false_true e)
int1_type wire.String1 e = absurd (false_true e)
int1_type wire.String4 e = absurd (false_true e)
int1_type wire.Map e = absurd (false_true e)
int1_type wire.List e = absurd (false_true e)
int1_type wire.StructBegin e = absurd (false_true e)
int1_type wire.StructEnd e = absurd (false_true e)
int1_type wire.ZeroTag e = absurd (false_true e)
int1_type wire.SimpleList e = absurd (false_true e)

no_end : (b : Bool) → not b ≡ true → b ≡ false
no_end false e = refl
no_end true e = absurd (false_true e)

struct_context : (rules : Rules) (from room tag : ℕ) (type : WireType) (ends : Bool) (w rest : List ℕ) (below : List Part) (After : List ℕ → Type 0) → is_end type ≡ ends → Head tag type w rest → cond ends (wrong_tag rules.fixed_tags 0 tag) (order_fault rules.rising_tags from tag) ≡ None → (not ends && (rules.rising_tags && ltb 255 from)) ≡ false → (opens type && (rules.depth && eqb room 0)) ≡ false → Parts rules (cond ends below (contents room type (head_of (in_struct (tag + 1) room) ∷ below))) rest After → InContext rules (in_struct from room) w (λ v. Parts rules below v After)
struct_context rules from room tag type true w rest below After e head fits full deep k =
    let closes : FixedHead rules.fixed_tags 0 type w rest = tag_back rules.fixed_tags 0 head fits in
    (no_fields, w, rest, no_more_fields, subst (λ (t : WireType). FixedHead rules.fixed_tags 0 t w rest) (end_type type e) closes, k)
struct_context rules from room tag type false w rest below After e head fits full deep k =
    let some = contents_back rules room type (head_of (in_struct (tag + 1) room) ∷ below) rest After e deep k in
    let x = some.after in
    (field tag some.v x.0, x.1, x.2, one_field head (from_order rules.rising_tags from tag (head_fits head) fits full) some.spelled x.3, x.4, x.5)

pub form_context : (rules : Rules) (context : Context) (w : List ℕ) (below : List Part) (After : List ℕ → Type 0) → Form rules (head_context context) w (Following rules context below After) → InContext rules context w (λ v. Parts rules below v After)
unfolding takes tag_fault is_full is_deep
form_context rules (in_struct from room) w below After f =
    struct_context rules from room f.tag f.type (is_end f.type) w f.rest below After refl f.head f.tag_fits f.not_full f.not_deep f.following
form_context rules (an_element more room) w below After f =
    let some = contents_back rules room f.type (counted (of_values room) more below) f.rest After (no_end (is_end f.type) f.taken) f.not_deep f.following in
    let x = counted_back rules (of_values room) more some.rest below After some.after in
    (value some.v x.0, x.1, one_value (tag_back rules.fixed_tags 0 f.head f.tag_fits) some.spelled x.2, x.3)
form_context rules (a_key more room) w below After f =
    let some = contents_back rules room f.type (head_of (its_value more room) ∷ below) f.rest After (no_end (is_end f.type) f.taken) f.not_deep f.following in
    let x = some.after in
    (pair some.v x.1 x.6.0, x.6.1, one_pair (tag_back rules.fixed_tags 0 f.head f.tag_fits) some.spelled x.4 x.5 x.6.2, x.6.3)
form_context rules (its_value more room) w below After f =
    let some = contents_back rules room f.type (counted (of_pairs room) more below) f.rest After (no_end (is_end f.type) f.taken) f.not_deep f.following in
    (f.type, some.v, f.rest, some.rest, tag_back rules.fixed_tags 1 f.head f.tag_fits, some.spelled, counted_back rules (of_pairs room) more some.rest below After some.after)
form_context rules (a_size kind) w below After f =
    let s = size_back rules kind f.type below f.rest After f.taken f.following in
    (s.n, s.mid, record { type = f.type; number = s.number; following = f.rest; head = tag_back rules.fixed_tags 0 f.head f.tag_fits; contents = s.contents; size = s.size }, s.counts)
form_context rules simple_head w below After f =
    (f.rest, subst (λ (t : WireType). FixedHead rules.fixed_tags 0 t w f.rest) (int1_type f.type f.taken) (tag_back rules.fixed_tags 0 f.head f.tag_fits), f.following)

pub body_form : (rules : Rules) {from byte : ℕ} {fs : WireFields} {w : List ℕ} → FieldsBy rules MAX_DEPTH from fs (byte ∷ w) [] → Form rules (heads.Body from) (byte ∷ w) (body_after rules)
unfolding takes tag_fault is_full is_deep
body_form rules {from = from} (one_field {tag = tag} {type = type} {fields = fs} {following = following} head le contents_here fields) =
    record {
      type = type;
      tag = tag;
      rest = following;
      head = head;
      taken = rw (not_end contents_here) refl;
      tag_fits = above rules.rising_tags from tag le;
      not_full = not_last rules.rising_tags from tag le (head_fits head);
      not_deep = refl;
      following = contents_there rules contents_here [] (Body rules (tag + 1)) (fs, fields);
    }

deep_enough : (opening depth : Bool) → (opening && (depth && false)) ≡ false
deep_enough false depth = refl
deep_enough true true = refl
deep_enough true false = refl

pub form_body : (rules : Rules) (from : ℕ) (w : List ℕ) → Form rules (heads.Body from) w (body_after rules) → Body rules from w
unfolding takes tag_fault is_full is_deep
form_body rules from w f =
    let some = contents_back rules MAX_DEPTH f.type [] f.rest (Body rules (f.tag + 1)) (no_end (is_end f.type) f.taken) (deep_enough (opens f.type) rules.depth) f.following in
    (field f.tag some.v some.after.0, one_field f.head (from_order rules.rising_tags from f.tag (head_fits f.head) f.tag_fits f.not_full) some.spelled some.after.1)
