-- What stands in a context is a head that may stand there, and what it calls for after it.
use Rattle.std.proofs.Common.{◌≡◌, ◌<◌, ◌≤◌, ℕ, ◌+◌, ◌*◌, Bool, true, false, cond, eqb, leb, ltb, List, [], ◌∷◌, Some, None, length, refl, sym, ◌∙◌, subst, arith}
use Rattle.std.specs.Prelude.{◌&&◌, ◌||◌}
use Rattle.std.specs.Int.{w8, w16, w32, w64}
use Rattle.std.proofs.lemmas.Bool.{ne_eqb, le-leb, le-ltb}
use Rattle.std.proofs.lemmas.Bool.Decides.{nat_tests}
use Rattle.wire_words.specs.Tree.{zero_tag, int1, int2, int4, int8, WireValue, whole, float, double, string1, string4, simple_list, list, map, struct}
use Rattle.tars_wire.specs.declared.wire_type.WireType.{WireType}
use Rattle.tars_wire.specs.declared.wire_type.WireType.TheVariants as wire
use Rattle.tars_wire.specs.declared.wire_fault.WireWhy.TheVariants as why
use Rattle.tars_wire.specs.Heads.{opens, is_end, Head, short, long}
use Rattle.tars_wire.specs.Spelled.{Rules, When, FixedHead, Bytes, signed, is_zero_tag, is_int1, is_int2, is_int4, is_int8, ContentsBy, is_whole, is_float, is_double, is_string1, is_string4, is_simple_list, is_list, is_map, is_struct}
use Rattle.tars_wire.specs.MachineSteps.{wrong_tag, order_fault, of_bytes, Part, contents}
use Rattle.tars_wire.proofs.Machine.Meaning.{Run, Parts}
use Rattle.tars_wire.proofs.Machine.Counts.{run_there, run_back, value_of, later_there, later_back, value_four}

not_zero : (depth : Bool) (room : ℕ) → When depth (0 < room) → (depth && eqb room 0) ≡ false
not_zero true room deep = ne_eqb room 0 (λ e. omega arith)
not_zero false room deep = refl

-- a list, map or struct is not too deep
pub room_left : (rules : Rules) {room : ℕ} {type : WireType} {v : WireValue} {w rest : List ℕ} → ContentsBy rules room type v w rest → (opens type && (rules.depth && eqb room 0)) ≡ false
room_left rules (is_whole is_zero_tag) = refl
room_left rules (is_whole (is_int1 bytes e)) = refl
room_left rules (is_whole (is_int2 bytes e)) = refl
room_left rules (is_whole (is_int4 bytes e)) = refl
room_left rules (is_whole (is_int8 bytes e)) = refl
room_left rules (is_float bytes e) = refl
room_left rules (is_double bytes e) = refl
room_left rules (is_string1 fits bytes e) = refl
room_left rules (is_string4 size e bytes f) = refl
room_left rules (is_simple_list head size bytes e) = refl
room_left rules (is_list {room = room} deep size values) = not_zero rules.depth room deep
room_left rules (is_map {room = room} deep size pairs) = not_zero rules.depth room deep
room_left rules (is_struct {room = room} deep fields head) = not_zero rules.depth room deep

pub contents_there : (rules : Rules) {room : ℕ} {type : WireType} {v : WireValue} {w rest : List ℕ} → ContentsBy rules room type v w rest → (below : List Part) (After : List ℕ → Type 0) → Parts rules below rest After → Parts rules (contents room type below) w After
contents_there rules (is_whole is_zero_tag) below After k = k
contents_there rules (is_whole (is_int1 bytes e)) below After k = run_there bytes 1 e (λ v. Parts rules below v After) k
contents_there rules (is_whole (is_int2 bytes e)) below After k = run_there bytes 2 e (λ v. Parts rules below v After) k
contents_there rules (is_whole (is_int4 bytes e)) below After k = run_there bytes 4 e (λ v. Parts rules below v After) k
contents_there rules (is_whole (is_int8 bytes e)) below After k = run_there bytes 8 e (λ v. Parts rules below v After) k
contents_there rules (is_float bytes e) below After k = run_there bytes 4 e (λ v. Parts rules below v After) k
contents_there rules (is_double bytes e) below After k = run_there bytes 8 e (λ v. Parts rules below v After) k
contents_there rules (is_string1 {size = size} fits bytes e) below After k =
    (fits, run_there bytes (0 * 256 + size) (omega arith) (λ v. Parts rules below v After) k)
contents_there rules (is_string4 {size = size} s e bytes f) below After k =
    later_there rules s of_bytes 4 0 e (λ v. Parts rules below v After) (run_there bytes (value_of 0 size) (f ∙ sym (value_four size e)) (λ v. Parts rules below v After) k)
contents_there rules (is_simple_list {n = n} {following = following} {last = last} head size bytes e) below After k =
    (following, head, (n, last, size, run_there bytes n e (λ v. Parts rules below v After) k))
contents_there rules (is_list {n = n} {values = vs} {following = following} {rest = rest} deep size values) below After k =
    (n, following, size, (vs, rest, values, k))
contents_there rules (is_map {n = n} {pairs = ps} {following = following} {rest = rest} deep size pairs) below After k =
    (n, following, size, (ps, rest, pairs, k))
contents_there rules (is_struct {fields = fs} {following = following} {rest = rest} deep fields head) below After k =
    (fs, following, rest, fields, head, k)

-- some contents are spelled
pub record SomeContents (rules : Rules) (room : ℕ) (type : WireType) (w : List ℕ) (After : List ℕ → Type 0) : Type 0 where
  pub v : WireValue
  pub rest : List ℕ
  pub spelled : ContentsBy rules room type v w rest
  pub after : After rest

true_false : true ≡ false → ⊥
true_false e = cc

above_zero : (depth : Bool) (room : ℕ) → (depth && eqb room 0) ≡ false → When depth (0 < room)
above_zero true room e = grind (arith, nat_tests)
above_zero false room e = tt

-- contents that are so many bytes
bytes_back : (rules : Rules) {room : ℕ} {type : WireType} (n : ℕ) (make : List ℕ → WireValue) (w : List ℕ) (below : List Part) (After : List ℕ → Type 0) → ((bytes rest : List ℕ) → Bytes bytes w rest → length bytes ≡ n → ContentsBy rules room type (make bytes) w rest) → Run n w (λ v. Parts rules below v After) → SomeContents rules room type w (λ v. Parts rules below v After)
bytes_back rules n make w below After reads x =
    let some = run_back n w (λ v. Parts rules below v After) x in
    record { v = make some.bytes; rest = some.rest; spelled = reads some.bytes some.rest some.spelled some.size; after = some.after }

pub contents_back : (rules : Rules) (room : ℕ) (type : WireType) (below : List Part) (w : List ℕ) (After : List ℕ → Type 0) → is_end type ≡ false → (opens type && (rules.depth && eqb room 0)) ≡ false → Parts rules (contents room type below) w After → SomeContents rules room type w (λ v. Parts rules below v After)
contents_back rules room wire.ZeroTag below w After end deep x =
    record { v = whole zero_tag; rest = w; spelled = is_whole is_zero_tag; after = x }
contents_back rules room wire.Int1 below w After end deep x = bytes_back rules 1 (λ bytes. whole (int1 (signed w8 bytes))) w below After (λ bytes rest is e. is_whole (is_int1 is e)) x
contents_back rules room wire.Int2 below w After end deep x = bytes_back rules 2 (λ bytes. whole (int2 (signed w16 bytes))) w below After (λ bytes rest is e. is_whole (is_int2 is e)) x
contents_back rules room wire.Int4 below w After end deep x = bytes_back rules 4 (λ bytes. whole (int4 (signed w32 bytes))) w below After (λ bytes rest is e. is_whole (is_int4 is e)) x
contents_back rules room wire.Int8 below w After end deep x = bytes_back rules 8 (λ bytes. whole (int8 (signed w64 bytes))) w below After (λ bytes rest is e. is_whole (is_int8 is e)) x
contents_back rules room wire.Float below w After end deep x = bytes_back rules 4 float w below After (λ bytes rest is e. is_float is e) x
contents_back rules room wire.Double below w After end deep x = bytes_back rules 8 double w below After (λ bytes rest is e. is_double is e) x
contents_back rules room wire.String1 below [] After end deep x = absurd x
contents_back rules room wire.String1 below (size ∷ w) After end deep x =
    let some = run_back (0 * 256 + size) w (λ v. Parts rules below v After) x.1 in
    let e : length some.bytes ≡ size = some.size ∙ omega arith in
    record { v = string1 some.bytes; rest = some.rest; spelled = is_string1 x.0 some.spelled e; after = some.after }
contents_back rules room wire.String4 below w After end deep x =
    let size = later_back rules of_bytes 4 0 w (λ v. Parts rules below v After) x in
    let some = run_back (value_of 0 size.0) size.1 (λ v. Parts rules below v After) size.4 in
    record { v = string4 some.bytes; rest = some.rest; spelled = is_string4 size.2 size.3 some.spelled (some.size ∙ value_four size.0 size.3); after = some.after }
contents_back rules room wire.SimpleList below w After end deep x =
    let some = run_back x.2.0 x.2.1 (λ v. Parts rules below v After) x.2.3 in
    record { v = simple_list some.bytes; rest = some.rest; spelled = is_simple_list x.1 x.2.2 some.spelled some.size; after = some.after }
contents_back rules room wire.List below w After end deep x =
    record { v = list x.3.0; rest = x.3.1; spelled = is_list (above_zero rules.depth room deep) x.2 x.3.2; after = x.3.3 }
contents_back rules room wire.Map below w After end deep x =
    record { v = map x.3.0; rest = x.3.1; spelled = is_map (above_zero rules.depth room deep) x.2 x.3.2; after = x.3.3 }
contents_back rules room wire.StructBegin below w After end deep x =
    record { v = struct x.0; rest = x.2; spelled = is_struct (above_zero rules.depth room deep) x.3 x.4; after = x.5 }
contents_back rules room wire.StructEnd below w After end deep x = absurd (true_false end)

-- heads and tags
pub head_fits : {tag : ℕ} {type : WireType} {w rest : List ℕ} → Head tag type w rest → tag < 256
head_fits (short e below) = omega arith
head_fits (long e below) = below

pub above : (rising : Bool) (from tag : ℕ) → When rising (from ≤ tag) → order_fault rising from tag ≡ None
above true from tag le = rw (le-leb from tag le) refl
above false from tag le = refl

pub not_last : (rising : Bool) (from tag : ℕ) → When rising (from ≤ tag) → tag < 256 → (rising && ltb 255 from) ≡ false
not_last true from tag le below = le-ltb 255 from (omega arith)
not_last false from tag le below = refl

-- and back
pub from_order : (rising : Bool) (from tag : ℕ) → tag < 256 → order_fault rising from tag ≡ None → (rising && ltb 255 from) ≡ false → When rising (from ≤ tag)
from_order false from tag below e f = tt
from_order true from tag below e f = go (leb from tag) (eqb tag 255) refl refl e
  where
    some_none : Some why.Order ≡ None → ⊥
    some_none e = cc

    go : (b c : Bool) → leb from tag ≡ b → eqb tag 255 ≡ c → cond (b || c) None (Some why.Order) ≡ None → from ≤ tag
    go true c g h e = grind (arith, nat_tests)
    go false true g h e = grind (arith, nat_tests)
    go false false g h e = absurd (some_none e)

wanted_tag : (wanted tag : ℕ) → wrong_tag true wanted tag ≡ None → tag ≡ wanted
wanted_tag wanted tag e = go (eqb tag wanted) refl e
  where
    some_none : Some why.BadTag ≡ None → ⊥
    some_none e = cc

    go : (b : Bool) → eqb tag wanted ≡ b → cond b None (Some why.BadTag) ≡ None → tag ≡ wanted
    go true f e = grind (arith, nat_tests)
    go false f e = absurd (some_none e)

-- a head of a fixed tag, or of any
pub record SomeTag (fixed : Bool) (wanted : ℕ) (type : WireType) (w rest : List ℕ) : Type 0 where
  pub tag : ℕ
  pub head : Head tag type w rest
  pub fits : wrong_tag fixed wanted tag ≡ None

pub tag_there : (fixed : Bool) {wanted : ℕ} {type : WireType} {w rest : List ℕ} → FixedHead fixed wanted type w rest → SomeTag fixed wanted type w rest
tag_there true {wanted = wanted} head =
    let e : eqb wanted wanted ≡ true = grind (arith, nat_tests) in
    record { tag = wanted; head = head; fits = rw e refl }
tag_there false head = record { tag = head.0; head = head.1; fits = refl }

pub tag_back : (fixed : Bool) (wanted : ℕ) {tag : ℕ} {type : WireType} {w rest : List ℕ} → Head tag type w rest → wrong_tag fixed wanted tag ≡ None → FixedHead fixed wanted type w rest
tag_back true wanted {tag} {type} {w} {rest} head e = subst (λ (t : ℕ). Head t type w rest) (wanted_tag wanted tag e) head
tag_back false wanted {tag = tag} head e = (tag, head)
