-- A head's first byte says what the head and what comes after it may be.
use Rattle.std.proofs.Common.{◌≡◌, ◌<◌, ℕ, ◌+◌, ◌*◌, ◌/◌, ◌%◌, Bool, true, false, cond, eqb, ltb, leb, List, [], ◌∷◌, Option, Some, None, Result, Ok, Err, refl, sym, ap, ◌∙◌, subst, arith}
use Rattle.std.specs.Prelude.{◌&&◌}
use Rattle.std.proofs.lemmas.Bool.{ne_eqb}
use Rattle.std.proofs.lemmas.Bool.Decides.{nat_tests}
use Rattle.tars_wire.specs.declared.wire_type.WireType.{WireType}
use Rattle.tars_wire.specs.declared.wire_fault.WireWhy.{WireWhy}
use Rattle.tars_wire.specs.declared.wire_fault.WireWhy.TheVariants as why
use Rattle.tars_wire.specs.declared.head_context.HeadContext.{HeadContext}
use Rattle.tars_wire.specs.declared.head_context.HeadContext.TheVariants as heads
use Rattle.tars_wire.specs.declared.head.FirstByte.{FirstByte}
use Rattle.tars_wire.specs.declared.head.FirstByte.TheVariants as first
use Rattle.tars_wire.specs.Heads.{type_of, code_of, is_end, Head, short, long}
use Rattle.tars_wire.specs.Spelled.{Rules}
use Rattle.tars_wire.specs.MachineSteps.{not, wrong_tag, order_fault, takes, tag_fault, is_full, is_deep, unless, sooner, typed_byte, short_fault, long_fault, judged_byte, first_byte}
use Rattle.tars_wire.proofs.Grammar.Heads.{type_of-code_of, code_below, code_of-type_of}
use Rattle.tars_wire.proofs.Machine.Meaning.{Form, Said}
use Rattle.tars_wire.proofs.TestLemmas.{eqb_fact, halves}

pub first_byte_is : (rules : Rules) (context : HeadContext) (byte high : ℕ) (type : WireType) → byte ≡ 16 * high + code_of type → first_byte rules context byte ≡ judged_byte rules context type high
unfolding first_byte
first_byte_is rules context byte high type e =
    let h = halves byte high (code_of type) e (code_below type) in
    rw (h.0, h.1, type_of-code_of type) refl

judged_short : (rules : Rules) (context : HeadContext) (type : WireType) (tag : ℕ) → tag < 15 → takes context type ≡ true → tag_fault rules context type tag ≡ None → is_deep rules context type ≡ false → judged_byte rules context type tag ≡ Ok (first.Whole (record { tag = tag; kind = type }))
unfolding judged_byte short_fault
judged_short rules context type tag below t f d = rw (t, ne_eqb tag 15 (λ e. omega arith), f, d) refl

judged_long : (rules : Rules) (context : HeadContext) (type : WireType) → takes context type ≡ true → is_full rules context type ≡ false → is_deep rules context type ≡ false → judged_byte rules context type 15 ≡ Ok (first.Long type)
unfolding judged_byte long_fault
judged_long rules context type t f d = rw (t, f, d) refl

head_said : (rules : Rules) (context : HeadContext) (Following : WireType → ℕ → List ℕ → Type 0) {type : WireType} {tag byte : ℕ} {w rest : List ℕ} → Head tag type (byte ∷ w) rest → takes context type ≡ true → tag_fault rules context type tag ≡ None → is_full rules context type ≡ false → is_deep rules context type ≡ false → Following type tag rest → Said rules context Following (first_byte rules context byte) w
head_said rules context Following {type} {tag} {byte} {w} (short e below) t f full deep b =
    let P : Result FirstByte WireWhy → Type 0 = λ r. Said rules context Following r w in
    subst P (sym (first_byte_is rules context byte tag type e ∙ judged_short rules context type tag below t f deep)) b
head_said rules context Following {type} {tag} {byte} {w} {rest} (long e below) t f full deep b =
    let P : Result FirstByte WireWhy → Type 0 = λ r. Said rules context Following r (tag ∷ rest) in
    let e' : byte ≡ 16 * 15 + code_of type = omega arith in
    subst P (sym (first_byte_is rules context byte 15 type e' ∙ judged_long rules context type t full deep)) (below, f, b)

pub said : (rules : Rules) (context : HeadContext) (byte : ℕ) (w : List ℕ) (Following : WireType → ℕ → List ℕ → Type 0) → Form rules context (byte ∷ w) Following → Said rules context Following (first_byte rules context byte) w
said rules context byte w Following form = head_said rules context Following form.head form.taken form.tag_fits form.not_full form.not_deep form.following

-- what the tests of a short head say
pub short_fits : (rules : Rules) (context : HeadContext) (type : WireType) (tag : ℕ) → short_fault rules context type tag ≡ None → (tag_fault rules context type tag ≡ None) × (is_deep rules context type ≡ false)
unfolding short_fault
short_fits rules context type tag e = go (tag_fault rules context type tag) (is_deep rules context type) e
  where
    go : (f : Option WireWhy) (d : Bool) → sooner f (cond d (Some why.Depth) None) ≡ None → (f ≡ None) × (d ≡ false)
    go None false e = (refl, refl)
    go None true e = cc
    go (Some fault) d e = cc

pub long_fits : (rules : Rules) (context : HeadContext) (type : WireType) → long_fault rules context type ≡ None → (is_full rules context type ≡ false) × (is_deep rules context type ≡ false)
unfolding long_fault
long_fits rules context type e = go (is_full rules context type) (is_deep rules context type) e
  where
    go : (f d : Bool) → cond f (Some why.Order) (cond d (Some why.Depth) None) ≡ None → (f ≡ false) × (d ≡ false)
    go false false e = (refl, refl)
    go false true e = cc
    go true d e = cc

order_room : (rising : Bool) (from tag : ℕ) → tag < 15 → order_fault rising from tag ≡ None → (rising && ltb 255 from) ≡ false
order_room false from tag below e = refl
order_room true from tag below e = go (ltb 255 from) refl
  where
    none_some : (fault : WireWhy) → Some fault ≡ None → ⊥
    none_some fault e = cc

    go : (b : Bool) → ltb 255 from ≡ b → b ≡ false
    go false f = refl
    go true f =
        let above : leb from tag ≡ false = grind (arith, nat_tests) in
        let below255 : eqb tag 255 ≡ false = ne_eqb tag 255 (λ e. omega arith) in
        absurd (none_some why.Order (rw (above, below255) at e))

struct_room : (fixed rising ends : Bool) (from tag : ℕ) → tag < 15 → cond ends (wrong_tag fixed 0 tag) (order_fault rising from tag) ≡ None → (not ends && (rising && ltb 255 from)) ≡ false
struct_room fixed rising true from tag below e = refl
struct_room fixed rising false from tag below e = order_room rising from tag below e

-- a tag in the head's first byte leaves a tag
not_full_below : (rules : Rules) (context : HeadContext) (type : WireType) (tag : ℕ) → tag < 15 → tag_fault rules context type tag ≡ None → is_full rules context type ≡ false
unfolding is_full tag_fault
not_full_below rules (heads.Body from) type tag below e = order_room rules.rising_tags from tag below e
not_full_below rules (heads.Struct from room) type tag below e = struct_room rules.fixed_tags rules.rising_tags (is_end type) from tag below e
not_full_below rules (heads.Item wanted room) type tag below e = refl
not_full_below rules heads.Size type tag below e = refl
not_full_below rules heads.Simple type tag below e = refl

eqb_not : (m n : ℕ) → eqb m n ≡ false → m ≡ n → ⊥
eqb_not m n e f = grind (arith, nat_tests)

long_unsaid : (rules : Rules) (context : HeadContext) (type : WireType) (byte : ℕ) (w : List ℕ) (Following : WireType → ℕ → List ℕ → Type 0) (fault : Option WireWhy) → byte ≡ 16 * 15 + code_of type → takes context type ≡ true → long_fault rules context type ≡ fault → Said rules context Following (unless fault (first.Long type)) w → Form rules context (byte ∷ w) Following
long_unsaid rules context type byte w Following (Some fault) e t f x = absurd x
long_unsaid rules context type byte [] Following None e t f x = absurd x
long_unsaid rules context type byte (tag ∷ w) Following None e t f x =
    let fits = long_fits rules context type f in
    record { type = type; tag = tag; rest = w; head = long (omega arith) x.0; taken = t; tag_fits = x.1; not_full = fits.0; not_deep = fits.1; following = x.2 }

short_unsaid : (rules : Rules) (context : HeadContext) (type : WireType) (byte tag : ℕ) (w : List ℕ) (Following : WireType → ℕ → List ℕ → Type 0) (fault : Option WireWhy) → byte ≡ 16 * tag + code_of type → tag < 15 → takes context type ≡ true → short_fault rules context type tag ≡ fault → Said rules context Following (unless fault (first.Whole (record { tag = tag; kind = type }))) w → Form rules context (byte ∷ w) Following
short_unsaid rules context type byte tag w Following (Some fault) e below t f x = absurd x
short_unsaid rules context type byte tag w Following None e below t f x =
    let fits = short_fits rules context type tag f in
    record { type = type; tag = tag; rest = w; head = short e below; taken = t; tag_fits = fits.0; not_full = not_full_below rules context type tag below fits.0; not_deep = fits.1; following = x }

byte_unsaid : (rules : Rules) (context : HeadContext) (type : WireType) (byte high : ℕ) (w : List ℕ) (Following : WireType → ℕ → List ℕ → Type 0) → byte ≡ 16 * high + code_of type → high < 16 → Said rules context Following (judged_byte rules context type high) w → Form rules context (byte ∷ w) Following
unfolding judged_byte
byte_unsaid rules context type byte high w Following e fits x = by_type (takes context type) refl x
  where
    by_form : (b : Bool) → takes context type ≡ true → eqb high 15 ≡ b → Said rules context Following (cond b (unless (long_fault rules context type) (first.Long type)) (unless (short_fault rules context type high) (first.Whole (record { tag = high; kind = type })))) w → Form rules context (byte ∷ w) Following
    by_form true t f x = long_unsaid rules context type byte w Following (long_fault rules context type) (e ∙ ap (λ h. 16 * h + code_of type) (eqb_fact high 15 f)) t refl x
    by_form false t f x = short_unsaid rules context type byte high w Following (short_fault rules context type high) e (let no15 = eqb_not high 15 f in omega (arith, no15)) t refl x

    by_type : (b : Bool) → takes context type ≡ b → Said rules context Following (cond b (cond (eqb high 15) (unless (long_fault rules context type) (first.Long type)) (unless (short_fault rules context type high) (first.Whole (record { tag = high; kind = type })))) (Err why.BadType)) w → Form rules context (byte ∷ w) Following
    by_type true t x = by_form (eqb high 15) t refl x
    by_type false t x = absurd x

pub unsaid : (rules : Rules) (context : HeadContext) (byte : ℕ) (w : List ℕ) (Following : WireType → ℕ → List ℕ → Type 0) → byte < 256 → Said rules context Following (first_byte rules context byte) w → Form rules context (byte ∷ w) Following
unfolding first_byte
unsaid rules context byte w Following fits x = go (type_of (byte % 16)) refl x
  where
    go : (o : Option WireType) → type_of (byte % 16) ≡ o → Said rules context Following (typed_byte rules context o (byte / 16)) w → Form rules context (byte ∷ w) Following
    go None e x = absurd x
    go (Some type) e x =
        let low = code_of-type_of (byte % 16) type e in
        byte_unsaid rules context type byte (byte / 16) w Following (omega arith) (omega arith) x
