-- Where the step by all rules goes on, laxer ones go on to the same; where it refuses a byte, its reason says
-- which of them go on.
use Rattle.std.proofs.Common.{◌≡◌, ℕ, zero, suc, ◌+◌, ◌/◌, ◌%◌, Bool, true, false, cond, eqb, leb, ltb, List, [], ◌∷◌, Option, Some, None, Result, Ok, Err, refl, sym, ap, subst}
use Rattle.std.specs.Prelude.{◌&&◌, ◌||◌}
use Rattle.tars_wire.specs.declared.wire_type.WireType.{WireType}
use Rattle.tars_wire.specs.declared.wire_fault.WireWhy.{WireWhy}
use Rattle.tars_wire.specs.declared.wire_fault.WireWhy.TheVariants as why
use Rattle.tars_wire.specs.declared.head_context.HeadContext.{HeadContext}
use Rattle.tars_wire.specs.declared.head_context.HeadContext.TheVariants as heads
use Rattle.tars_wire.specs.declared.head.FirstByte.{FirstByte}
use Rattle.tars_wire.specs.declared.head.FirstByte.TheVariants as first
use Rattle.tars_wire.specs.Heads.{MAX_DEPTH, type_of, opens, is_end}
use Rattle.tars_wire.specs.Spelled.{Rules, TYPES, SIZES, FIXED_TAGS, RISING_TAGS, ALL}
use Rattle.tars_wire.specs.MachineSteps.{not, wrong_tag, order_fault, takes, tag_fault, is_full, is_deep, unless, sooner, short_fault, long_fault, judged_byte, typed_byte, first_byte, Context, head_context, Part, raw, size_first, size_later, head_of, negative, counted, contents, after, Inside, parts, tag_of, head_step, part_step, tag_step, State, within, body_tag, lift_step, body_step, step}

abbrev pub Taken : {X : Type 0} → Result X WireWhy → Type 0
Taken (Ok x) = Unit {0}
Taken (Err why) = ⊥

abbrev pub Refused : {X : Type 0} → Result X WireWhy → Type 0
Refused (Ok x) = ⊥
Refused (Err why) = Unit {0}

-- what the steps do by the rules of types alone, sizes too, fixed tags too, rising tags too, and all
abbrev pub Told : {X : Type 0} (types sizes fixed rising all : Result X WireWhy) → Type 0
Told types sizes fixed rising (Ok x) = (types ≡ Ok x) × (sizes ≡ Ok x) × (fixed ≡ Ok x) × (rising ≡ Ok x)
Told types sizes fixed rising (Err why.Short) = ⊥
Told types sizes fixed rising (Err why.BadType) = Refused types × Refused sizes × Refused fixed × Refused rising
Told types sizes fixed rising (Err why.BadSize) = Taken types × Refused sizes × Refused fixed × Refused rising
Told types sizes fixed rising (Err why.BadTag) = Taken types × Taken sizes × Refused fixed × Refused rising
Told types sizes fixed rising (Err why.Order) = Taken types × Taken sizes × Taken fixed × Refused rising
Told types sizes fixed rising (Err why.Depth) = Taken types × Taken sizes × Taken fixed × Taken rising

-- the same of a function of the rules
abbrev pub Tells : {X : Type 0} → (Rules → Result X WireWhy) → Type 0
Tells f = Told (f TYPES) (f SIZES) (f FIXED_TAGS) (f RISING_TAGS) (f ALL)

-- the faults of a tag and of the depth
abbrev deep_if : Bool → Option WireWhy
deep_if b = cond b (Some why.Depth) None

order_told : {X : Type 0} (x : X) (b opening full : Bool) → let lax = deep_if (opening && (false && full)) in let bad = cond b None (Some why.Order) in
    Told (unless (sooner None lax) x) (unless (sooner None lax) x) (unless (sooner None lax) x) (unless (sooner bad lax) x) (unless (sooner bad (deep_if (opening && (true && full)))) x)
order_told x true true true = (tt, tt, tt, tt)
order_told x true true false = (refl, refl, refl, refl)
order_told x true false full = (refl, refl, refl, refl)
order_told x false true full = (tt, tt, tt, tt)
order_told x false false full = (tt, tt, tt, tt)

fixed_told : {X : Type 0} (x : X) (b opening full : Bool) → let lax = deep_if (opening && (false && full)) in let bad = cond b None (Some why.BadTag) in
    Told (unless (sooner None lax) x) (unless (sooner None lax) x) (unless (sooner bad lax) x) (unless (sooner bad lax) x) (unless (sooner bad (deep_if (opening && (true && full)))) x)
fixed_told x true true true = (tt, tt, tt, tt)
fixed_told x true true false = (refl, refl, refl, refl)
fixed_told x true false full = (refl, refl, refl, refl)
fixed_told x false true full = (tt, tt, tt, tt)
fixed_told x false false full = (tt, tt, tt, tt)

plain_order : {X : Type 0} (x : X) (b : Bool) → let bad = cond b None (Some why.Order) in Told (Ok x) (Ok x) (Ok x) (unless bad x) (unless bad x)
plain_order x true = (refl, refl, refl, refl)
plain_order x false = (tt, tt, tt, tt)

plain_fixed : {X : Type 0} (x : X) (b : Bool) → let bad = cond b None (Some why.BadTag) in Told (Ok x) (Ok x) (unless bad x) (unless bad x) (unless bad x)
plain_fixed x true = (refl, refl, refl, refl)
plain_fixed x false = (tt, tt, tt, tt)

tag_told : {X : Type 0} (x : X) (context : HeadContext) (type : WireType) (tag : ℕ) → Tells (λ rules. unless (tag_fault rules context type tag) x)
unfolding tag_fault
tag_told x (heads.Body from) type tag = plain_order x (leb from tag || eqb tag 255)
tag_told {X} x (heads.Struct from room) type tag = go (is_end type)
  where
    go : (b : Bool) → Tells (λ rules. unless (cond b (wrong_tag rules.fixed_tags 0 tag) (order_fault rules.rising_tags from tag)) x)
    go true = plain_fixed x (eqb tag 0)
    go false = plain_order x (leb from tag || eqb tag 255)
tag_told x (heads.Item wanted room) type tag = plain_fixed x (eqb tag wanted)
tag_told x heads.Size type tag = plain_fixed x (eqb tag 0)
tag_told x heads.Simple type tag = plain_fixed x (eqb tag 0)

short_told : {X : Type 0} (x : X) (context : HeadContext) (type : WireType) (tag : ℕ) → Tells (λ rules. unless (short_fault rules context type tag) x)
unfolding short_fault tag_fault is_deep
short_told x (heads.Body from) type tag = order_told x (leb from tag || eqb tag 255) false false
short_told {X} x (heads.Struct from room) type tag = go (is_end type)
  where
    go : (b : Bool) → Tells (λ rules. unless (sooner (cond b (wrong_tag rules.fixed_tags 0 tag) (order_fault rules.rising_tags from tag)) (deep_if (opens type && (rules.depth && eqb room 0)))) x)
    go true = fixed_told x (eqb tag 0) (opens type) (eqb room 0)
    go false = order_told x (leb from tag || eqb tag 255) (opens type) (eqb room 0)
short_told x (heads.Item wanted room) type tag = fixed_told x (eqb tag wanted) (opens type) (eqb room 0)
short_told x heads.Size type tag = fixed_told x (eqb tag 0) false false
short_told x heads.Simple type tag = fixed_told x (eqb tag 0) false false

-- the first byte of a long head
full_told : {X : Type 0} (x : X) (field full opening none : Bool) → let lax = deep_if (opening && (false && none)) in
    Told (unless (cond (field && (false && full)) (Some why.Order) lax) x) (unless (cond (field && (false && full)) (Some why.Order) lax) x) (unless (cond (field && (false && full)) (Some why.Order) lax) x) (unless (cond (field && (true && full)) (Some why.Order) lax) x) (unless (cond (field && (true && full)) (Some why.Order) (deep_if (opening && (true && none)))) x)
full_told x true true true none = (tt, tt, tt, tt)
full_told x true true false none = (tt, tt, tt, tt)
full_told x true false true true = (tt, tt, tt, tt)
full_told x true false true false = (refl, refl, refl, refl)
full_told x true false false none = (refl, refl, refl, refl)
full_told x false full true true = (tt, tt, tt, tt)
full_told x false full true false = (refl, refl, refl, refl)
full_told x false full false none = (refl, refl, refl, refl)

long_told : {X : Type 0} (x : X) (context : HeadContext) (type : WireType) → Tells (λ rules. unless (long_fault rules context type) x)
unfolding long_fault is_full is_deep
long_told x (heads.Body from) type = full_told x true (ltb 255 from) false false
long_told x (heads.Struct from room) type = full_told x (not (is_end type)) (ltb 255 from) (opens type) (eqb room 0)
long_told x (heads.Item wanted room) type = full_told x false false (opens type) (eqb room 0)
long_told x heads.Size type = (refl, refl, refl, refl)
long_told x heads.Simple type = (refl, refl, refl, refl)

byte_told : (context : HeadContext) (byte : ℕ) → Tells (λ rules. first_byte rules context byte)
unfolding first_byte judged_byte
byte_told context byte = go (type_of (byte % 16)) (byte / 16)
  where
    by_form : (type : WireType) (high : ℕ) (b : Bool) → Tells (λ rules. cond b (unless (long_fault rules context type) (first.Long type)) (unless (short_fault rules context type high) (first.Whole (record { tag = high; kind = type }))))
    by_form type high true = long_told (first.Long type) context type
    by_form type high false = short_told (first.Whole (record { tag = high; kind = type })) context type high

    by_type : (type : WireType) (high : ℕ) (b : Bool) → Tells (λ rules. cond b (cond (eqb high 15) (unless (long_fault rules context type) (first.Long type)) (unless (short_fault rules context type high) (first.Whole (record { tag = high; kind = type })))) (Err why.BadType))
    by_type type high true = by_form type high (eqb high 15)
    by_type type high false = (tt, tt, tt, tt)

    go : (o : Option WireType) (high : ℕ) → Tells (λ rules. typed_byte rules context o high)
    go None high = (tt, tt, tt, tt)
    go (Some type) high = by_type type high (takes context type)

-- what goes on is carried on, and what is refused stays so
pub record Carries {X Y : Type 0} (h : Result X WireWhy → Result Y WireWhy) : Type 0 where
  pub taken : (x : X) → Taken (h (Ok x))
  pub refused : (why : WireWhy) → h (Err why) ≡ Err why

taken_too : {X Y : Type 0} (h : Result X WireWhy → Result Y WireWhy) → Carries h → (r : Result X WireWhy) → Taken r → Taken (h r)
taken_too h c (Ok x) t = c.taken x
taken_too h c (Err why) t = absurd t

refused_too : {X Y : Type 0} (h : Result X WireWhy → Result Y WireWhy) → Carries h → (r : Result X WireWhy) → Refused r → Refused (h r)
refused_too h c (Ok x) t = absurd t
refused_too {X} {Y} h c (Err why) t = let P : Result Y WireWhy → Type 0 = Refused in subst P (sym (c.refused why)) tt

same_told : {X : Type 0} (a b c d all : Result X WireWhy) → Taken all → a ≡ all → b ≡ all → c ≡ all → d ≡ all → Told a b c d all
same_told a b c d (Ok x) t e f g h = (e, f, g, h)
same_told a b c d (Err why) t e f g h = absurd t

told_too : {X Y : Type 0} (h : Result X WireWhy → Result Y WireWhy) → Carries h → (a b c d all : Result X WireWhy) → Told a b c d all → Told (h a) (h b) (h c) (h d) (h all)
told_too h k a b c d (Ok x) t =
    same_told (h a) (h b) (h c) (h d) (h (Ok x)) (k.taken x) (ap h t.0) (ap h t.1) (ap h t.2) (ap h t.3)
told_too {X} {Y} h k a b c d (Err fault) t = let P : Result Y WireWhy → Type 0 = Told (h a) (h b) (h c) (h d) in subst P (sym (k.refused fault)) (go fault t)
  where
    go : (fault : WireWhy) → Told a b c d (Err fault) → Told (h a) (h b) (h c) (h d) (Err fault)
    go why.Short t = absurd t
    go why.BadType t = (refused_too h k a t.0, refused_too h k b t.1, refused_too h k c t.2, refused_too h k d t.3)
    go why.BadSize t = (taken_too h k a t.0, refused_too h k b t.1, refused_too h k c t.2, refused_too h k d t.3)
    go why.BadTag t = (taken_too h k a t.0, taken_too h k b t.1, refused_too h k c t.2, refused_too h k d t.3)
    go why.Order t = (taken_too h k a t.0, taken_too h k b t.1, taken_too h k c t.2, refused_too h k d t.3)
    go why.Depth t = (taken_too h k a t.0, taken_too h k b t.1, taken_too h k c t.2, taken_too h k d t.3)

tells_too : {X Y : Type 0} (h : Result X WireWhy → Result Y WireWhy) → Carries h → (f : Rules → Result X WireWhy) → Tells f → Tells (λ rules. h (f rules))
tells_too h k f t = told_too h k (f TYPES) (f SIZES) (f FIXED_TAGS) (f RISING_TAGS) (f ALL) t

head_carries : (context : Context) (below : List Part) → Carries (head_step context below)
head_carries context below = record { taken = taken; refused = λ why. refl }
  where
    taken : (x : FirstByte) → Taken (head_step context below (Ok x))
    taken (first.Whole head) = tt
    taken (first.Long type) = tt

lift_carries : (from : ℕ) → Carries (lift_step from)
lift_carries from = record { taken = λ x. tt; refused = λ why. refl }

body_carries : (from : ℕ) → Carries (body_step from)
body_carries from = record { taken = taken; refused = λ why. refl }
  where
    taken : (x : FirstByte) → Taken (body_step from (Ok x))
    taken (first.Whole head) = tt
    taken (first.Long type) = tt

size_told : (b : Bool) (to : Inside) (more : ℕ) (below : List Part) → Tells (λ rules. cond b (Ok to) (negative rules.sizes more below))
size_told true to more below = (refl, refl, refl, refl)
size_told false to more below = (tt, tt, tt, tt)

part_told : (part : Part) (below : List Part) (byte : ℕ) → Tells (λ rules. part_step rules part below byte)
part_told (raw zero) below byte = (refl, refl, refl, refl)
part_told (raw (suc more)) below byte = (refl, refl, refl, refl)
part_told (size_first kind zero) below byte = size_told (ltb byte 128) (parts (counted kind byte below)) zero below
part_told (size_first kind (suc more)) below byte = size_told (ltb byte 128) (parts (size_later kind more byte ∷ below)) (suc more) below
part_told (size_later kind zero so_far) below byte = (refl, refl, refl, refl)
part_told (size_later kind (suc more) so_far) below byte = (refl, refl, refl, refl)
part_told (head_of context) below byte = tells_too (head_step context below) (head_carries context below) (λ rules. first_byte rules (head_context context) byte) (byte_told (head_context context) byte)

pub step_told : (state : State) (byte : ℕ) → Tells (λ rules. step rules state byte)
step_told (within (parts []) from) byte = tells_too (body_step from) (body_carries from) (λ rules. first_byte rules (heads.Body from) byte) (byte_told (heads.Body from) byte)
step_told (within (parts (part ∷ below)) from) byte = tells_too (lift_step from) (lift_carries from) (λ rules. part_step rules part below byte) (part_told part below byte)
step_told (within (tag_of context type below) from) byte =
    tells_too (lift_step from) (lift_carries from) (λ rules. tag_step rules context type below byte) (tag_told (parts (after context byte type below)) (head_context context) type byte)
step_told (body_tag from type) byte = tag_told (within (parts (contents MAX_DEPTH type [])) (byte + 1)) (heads.Body from) type byte
