-- The steps by any rules read the language of bodies by those rules: they go there and back, and what is awaited can be completed.
use Rattle.std.proofs.Common.{◌⊎◌, inl, inr, ◌≡◌, ◌<◌, ◌≤◌, ℕ, zero, suc, ◌+◌, ◌*◌, Bool, true, false, cond, leb, ltb, List, [], ◌∷◌, Option, Some, None, Result, Ok, Err, refl, sym, subst, lit<}
use Rattle.std.specs.Prelude.{◌||◌}
use Rattle.std.proofs.lemmas.Bool.{lt-ltb, le-ltb, ltb-true, ltb-false}
use Rattle.wire_words.specs.Tree.{whole, zero_tag, WireValues, no_values, value, WirePairs, no_pairs, pair, no_fields}
use Rattle.longest_prefix.specs.Machine.{Goes, Ends, Reads}
use Rattle.tars_wire.specs.declared.wire_type.WireType.{WireType}
use Rattle.tars_wire.specs.declared.wire_type.WireType.TheVariants as wire
use Rattle.tars_wire.specs.declared.wire_fault.WireWhy.{WireWhy}
use Rattle.tars_wire.specs.declared.wire_fault.WireWhy.TheVariants as why
use Rattle.tars_wire.specs.declared.head_context.HeadContext.{HeadContext}
use Rattle.tars_wire.specs.declared.head_context.HeadContext.TheVariants as heads
use Rattle.tars_wire.specs.declared.head.FirstByte.{FirstByte}
use Rattle.tars_wire.specs.declared.head.FirstByte.TheVariants as first
use Rattle.tars_wire.specs.Heads.{MAX_DEPTH, is_end, Head, short}
use Rattle.tars_wire.specs.Spelled.{Rules, FixedHead, is_zero_tag, is_whole, ValuesBy, no_more_values, one_value, PairsBy, no_more_pairs, one_pair, no_more_fields}
use Rattle.tars_wire.specs.MachineSteps.{negative, wrong_tag, order_fault, tag_fault, unless, first_byte, Kind, of_bytes, of_values, of_pairs, Context, in_struct, an_element, a_key, its_value, a_size, simple_head, head_context, Part, raw, size_first, size_later, head_of, counted, contents, after, Inside, parts, tag_of, head_step, part_step, tag_step, State, within, body_tag, lift_step, body_step, step, may_end}
use Rattle.tars_wire.proofs.Machine.Meaning.{Run, Counted, Later, Sized, Awaits, Parts, Insides, Body, body_after, Language, Form, Said}
use Rattle.tars_wire.proofs.Machine.FirstBytes.{said, unsaid}
use Rattle.tars_wire.proofs.Machine.Counts.{counted_there, counted_back}
use Rattle.tars_wire.proofs.Machine.Contexts.{Following, context_form, form_context, body_form, form_body}

abbrev pub IsByte : ℕ → Type 0
IsByte byte = byte < 256

-- what goes on inside a field
abbrev pub Inner : Rules → (List ℕ → Type 0) → Inside → List ℕ → Type 0
Inner rules After inside w = Insides rules inside w After

head_there : (rules : Rules) (context : Context) (below : List Part) (After : List ℕ → Type 0) (r : Result FirstByte WireWhy) (w : List ℕ) → Said rules (head_context context) (Following rules context below After) r w → Goes (Inner rules After) (head_step context below r) w
head_there rules context below After (Ok (first.Whole head)) w x = x
head_there rules context below After (Ok (first.Long type)) [] x = x
head_there rules context below After (Ok (first.Long type)) (tag ∷ w) x = x
head_there rules context below After (Err fault) w x = x

head_back : (rules : Rules) (context : Context) (below : List Part) (After : List ℕ → Type 0) (r : Result FirstByte WireWhy) (w : List ℕ) → Goes (Inner rules After) (head_step context below r) w → Said rules (head_context context) (Following rules context below After) r w
head_back rules context below After (Ok (first.Whole head)) w x = x
head_back rules context below After (Ok (first.Long type)) [] x = x
head_back rules context below After (Ok (first.Long type)) (tag ∷ w) x = x
head_back rules context below After (Err fault) w x = x

-- a byte below 128 is the first of a size, and so is another where sizes may be negative
small : (rules : Rules) (more byte : ℕ) (to : Inside) (below : List Part) (After : List ℕ → Type 0) (w : List ℕ) → ((byte < 128) × Insides rules to w After) ⊎ ((rules.sizes ≡ false) × (128 ≤ byte) × (byte < 256) × Run more w (λ v. Parts rules below v After)) → Goes (Inner rules After) (cond (ltb byte 128) (Ok to) (negative rules.sizes more below)) w
small rules more byte to below After w (inl x) =
    let P : Bool → Type 0 = λ b. Goes (Inner rules After) (cond b (Ok to) (negative rules.sizes more below)) w in
    subst P (sym (lt-ltb byte 128 x.0)) x.1
small rules more byte to below After w (inr x) =
    let P : Bool → Type 0 = λ b. Goes (Inner rules After) (cond b (Ok to) (negative rules.sizes more below)) w in
    let N : Bool → Type 0 = λ b. Goes (Inner rules After) (negative b more below) w in
    subst P (sym (le-ltb byte 128 x.1)) (subst N (sym x.0) (counted_there rules of_bytes more w below After x.3))

small_back : (rules : Rules) (more byte : ℕ) (to : Inside) (below : List Part) (After : List ℕ → Type 0) (w : List ℕ) → byte < 256 → Goes (Inner rules After) (cond (ltb byte 128) (Ok to) (negative rules.sizes more below)) w → ((byte < 128) × Insides rules to w After) ⊎ ((rules.sizes ≡ false) × (128 ≤ byte) × (byte < 256) × Run more w (λ v. Parts rules below v After))
small_back rules more byte to below After w fits x = go (ltb byte 128) rules.sizes refl refl x
  where
    go : (b sizes : Bool) → ltb byte 128 ≡ b → rules.sizes ≡ sizes → Goes (Inner rules After) (cond b (Ok to) (negative sizes more below)) w → ((byte < 128) × Insides rules to w After) ⊎ ((rules.sizes ≡ false) × (128 ≤ byte) × (byte < 256) × Run more w (λ v. Parts rules below v After))
    go true sizes e f x = inl (ltb-true byte 128 e, x)
    go false true e f x = absurd x
    go false false e f x = inr (f, ltb-false byte 128 e, fits, counted_back rules of_bytes more w below After x)

pub part_there : (rules : Rules) (part : Part) (below : List Part) (byte : ℕ) (w : List ℕ) (After : List ℕ → Type 0) → Parts rules (part ∷ below) (byte ∷ w) After → Goes (Inner rules After) (part_step rules part below byte) w
part_there rules (raw zero) below byte w After x = x.1
part_there rules (raw (suc more)) below byte w After x = x.1
part_there rules (size_first kind zero) below byte w After (inl x) = small rules zero byte (parts (counted kind byte below)) below After w (inl (x.0, counted_there rules kind byte w below After x.1))
part_there rules (size_first kind zero) below byte w After (inr x) = small rules zero byte (parts (counted kind byte below)) below After w (inr x)
part_there rules (size_first kind (suc more)) below byte w After x = small rules (suc more) byte (parts (size_later kind more byte ∷ below)) below After w x
part_there rules (size_later kind zero so_far) below byte w After x = counted_there rules kind (so_far * 256 + byte) w below After x.1
part_there rules (size_later kind (suc more) so_far) below byte w After x = x.1
part_there rules (head_of context) below byte w After x =
    head_there rules context below After (first_byte rules (head_context context) byte) w (said rules (head_context context) byte w (Following rules context below After) (context_form rules context (byte ∷ w) below After x))

part_back : (rules : Rules) (part : Part) (below : List Part) (byte : ℕ) (w : List ℕ) (After : List ℕ → Type 0) → byte < 256 → Goes (Inner rules After) (part_step rules part below byte) w → Parts rules (part ∷ below) (byte ∷ w) After
part_back rules (raw zero) below byte w After fits x = (fits, x)
part_back rules (raw (suc more)) below byte w After fits x = (fits, x)
part_back rules (size_first kind zero) below byte w After fits x =
    elim (small_back rules zero byte (parts (counted kind byte below)) below After w fits x) [ inl t ↦ inl (t.0, counted_back rules kind byte w below After t.1) | inr t ↦ inr t ]
part_back rules (size_first kind (suc more)) below byte w After fits x = small_back rules (suc more) byte (parts (size_later kind more byte ∷ below)) below After w fits x
part_back rules (size_later kind zero so_far) below byte w After fits x = (fits, counted_back rules kind (so_far * 256 + byte) w below After x)
part_back rules (size_later kind (suc more) so_far) below byte w After fits x = (fits, x)
part_back rules (head_of context) below byte w After fits x =
    form_context rules context (byte ∷ w) below After (unsaid rules (head_context context) byte w (Following rules context below After) fits (head_back rules context below After (first_byte rules (head_context context) byte) w x))

-- a tag in a byte of its own
pub unless_there : {X : Type 0} (L : X → List ℕ → Type 0) (fault : Option WireWhy) (to : X) (w : List ℕ) → fault ≡ None → L to w → Goes L (unless fault to) w
unless_there {X} L fault to w e x = subst (λ (f : Option WireWhy). Goes L (unless f to) w) (sym e) x

unless_back : {X : Type 0} (L : X → List ℕ → Type 0) (fault : Option WireWhy) (to : X) (w : List ℕ) → Goes L (unless fault to) w → (fault ≡ None) × L to w
unless_back L None to w x = (refl, x)
unless_back L (Some fault) to w x = absurd x

lift_there : (rules : Rules) (from : ℕ) (r : Result Inside WireWhy) (w : List ℕ) → Goes (Inner rules (Body rules from)) r w → Goes (Language rules) (lift_step from r) w
lift_there rules from (Ok inside) w x = x
lift_there rules from (Err fault) w x = x

lift_back : (rules : Rules) (from : ℕ) (r : Result Inside WireWhy) (w : List ℕ) → Goes (Language rules) (lift_step from r) w → Goes (Inner rules (Body rules from)) r w
lift_back rules from (Ok inside) w x = x
lift_back rules from (Err fault) w x = x

body_there : (rules : Rules) (from : ℕ) (r : Result FirstByte WireWhy) (w : List ℕ) → Said rules (heads.Body from) (body_after rules) r w → Goes (Language rules) (body_step from r) w
body_there rules from (Ok (first.Whole head)) w x = x
body_there rules from (Ok (first.Long type)) [] x = x
body_there rules from (Ok (first.Long type)) (tag ∷ w) x = x
body_there rules from (Err fault) w x = x

body_back : (rules : Rules) (from : ℕ) (r : Result FirstByte WireWhy) (w : List ℕ) → Goes (Language rules) (body_step from r) w → Said rules (heads.Body from) (body_after rules) r w
body_back rules from (Ok (first.Whole head)) w x = x
body_back rules from (Ok (first.Long type)) [] x = x
body_back rules from (Ok (first.Long type)) (tag ∷ w) x = x
body_back rules from (Err fault) w x = x

goes_there : (rules : Rules) (state : State) (byte : ℕ) (w : List ℕ) → Language rules state (byte ∷ w) → Goes (Language rules) (step rules state byte) w
goes_there rules (within (parts []) from) byte w x = body_there rules from (first_byte rules (heads.Body from) byte) w (said rules (heads.Body from) byte w (body_after rules) (body_form rules x.1))
goes_there rules (within (parts (part ∷ below)) from) byte w x = lift_there rules from (part_step rules part below byte) w (part_there rules part below byte w (Body rules from) x)
goes_there rules (within (tag_of context type below) from) byte w x =
    lift_there rules from (tag_step rules context type below byte) w (unless_there (Inner rules (Body rules from)) (tag_fault rules (head_context context) type byte) (parts (after context byte type below)) w x.1 x.2)
goes_there rules (body_tag from type) byte w x =
    unless_there (Language rules) (tag_fault rules (heads.Body from) type byte) (within (parts (contents MAX_DEPTH type [])) (byte + 1)) w x.1 x.2

goes_back : (rules : Rules) (state : State) (byte : ℕ) (w : List ℕ) → IsByte byte → Goes (Language rules) (step rules state byte) w → Language rules state (byte ∷ w)
goes_back rules (within (parts []) from) byte w fits x = form_body rules from (byte ∷ w) (unsaid rules (heads.Body from) byte w (body_after rules) fits (body_back rules from (first_byte rules (heads.Body from) byte) w x))
goes_back rules (within (parts (part ∷ below)) from) byte w fits x = part_back rules part below byte w (Body rules from) fits (lift_back rules from (part_step rules part below byte) w x)
goes_back rules (within (tag_of context type below) from) byte w fits x =
    let t = unless_back (Inner rules (Body rules from)) (tag_fault rules (head_context context) type byte) (parts (after context byte type below)) w (lift_back rules from (tag_step rules context type below byte) w x) in
    (fits, t.0, t.1)
goes_back rules (body_tag from type) byte w fits x =
    let t = unless_back (Language rules) (tag_fault rules (heads.Body from) type byte) (within (parts (contents MAX_DEPTH type [])) (byte + 1)) w x in
    (fits, t.0, t.1)

-- completions: zeros for bytes, the field 0C for values and keys, 1C for a map's value, 0B for a struct's end
run_fill : (n : ℕ) (After : List ℕ → Type 0) (w : List ℕ) → After w → (u : List ℕ) × Run n u After
run_fill zero After w a = (w, a)
run_fill (suc n) After w a = let t = run_fill n After w a in (0 ∷ t.0, (lit< tt, t.1))

fixed : (b : Bool) {tag : ℕ} {type : WireType} {w rest : List ℕ} → Head tag type w rest → FixedHead b tag type w rest
fixed true head = head
fixed false {tag = tag} head = (tag, head)

values_fill : (rules : Rules) (room n : ℕ) (w : List ℕ) → (vs : WireValues) × (u : List ℕ) × ValuesBy rules room n vs u w
values_fill rules room zero w = (no_values, w, no_more_values)
values_fill rules room (suc n) w =
    let t = values_fill rules room n w in
    (value (whole zero_tag) t.0, 12 ∷ t.1, one_value {type = wire.ZeroTag} (fixed rules.fixed_tags (short refl (lit< tt))) (is_whole is_zero_tag) t.2)

pairs_fill : (rules : Rules) (room n : ℕ) (w : List ℕ) → (ps : WirePairs) × (u : List ℕ) × PairsBy rules room n ps u w
pairs_fill rules room zero w = (no_pairs, w, no_more_pairs)
pairs_fill rules room (suc n) w =
    let t = pairs_fill rules room n w in
    (pair (whole zero_tag) (whole zero_tag) t.0, 12 ∷ 28 ∷ t.1, one_pair {key_type = wire.ZeroTag} {type = wire.ZeroTag} (fixed rules.fixed_tags (short refl (lit< tt))) (is_whole is_zero_tag) (fixed rules.fixed_tags (short refl (lit< tt))) (is_whole is_zero_tag) t.2)

counted_fill : (rules : Rules) (kind : Kind) (n : ℕ) (After : List ℕ → Type 0) (w : List ℕ) → After w → (u : List ℕ) × Counted rules kind n u After
counted_fill rules of_bytes n After w a = run_fill n After w a
counted_fill rules (of_values room) n After w a = let t = values_fill rules room n w in (t.1, (t.0, w, t.2, a))
counted_fill rules (of_pairs room) n After w a = let t = pairs_fill rules room n w in (t.1, (t.0, w, t.2, a))

later_fill : (rules : Rules) (kind : Kind) (more so_far : ℕ) (After : List ℕ → Type 0) (w : List ℕ) → After w → (u : List ℕ) × Later rules kind more so_far u After
later_fill rules kind zero so_far After w a = counted_fill rules kind so_far After w a
later_fill rules kind (suc more) so_far After w a = let t = later_fill rules kind more (so_far * 256 + 0) After w a in (0 ∷ t.0, (lit< tt, t.1))

sized_fill : (rules : Rules) (kind : Kind) (After : List ℕ → Type 0) (w : List ℕ) → After w → (u : List ℕ) × Sized rules kind u After
sized_fill rules kind After w a =
    let t = counted_fill rules kind 0 After w a in
    (12 ∷ t.0, (0, t.0, record { type = wire.ZeroTag; number = zero_tag; following = t.0; head = fixed rules.fixed_tags (short refl (lit< tt)); contents = is_zero_tag; size = refl }, t.1))

part_fill : (rules : Rules) (part : Part) (After : List ℕ → Type 0) (w : List ℕ) → After w → (u : List ℕ) × Awaits rules part u After
part_fill rules (raw more) After w a = run_fill (suc more) After w a
part_fill rules (size_first kind more) After w a = let t = later_fill rules kind more 0 After w a in (0 ∷ t.0, inl (lit< tt, t.1))
part_fill rules (size_later kind more so_far) After w a = later_fill rules kind (suc more) so_far After w a
part_fill rules (head_of (in_struct from room)) After w a = (11 ∷ w, (no_fields, 11 ∷ w, w, no_more_fields, fixed rules.fixed_tags (short refl (lit< tt)), a))
part_fill rules (head_of (an_element more room)) After w a = counted_fill rules (of_values room) (suc more) After w a
part_fill rules (head_of (a_key more room)) After w a = counted_fill rules (of_pairs room) (suc more) After w a
part_fill rules (head_of (its_value more room)) After w a =
    let t = counted_fill rules (of_pairs room) more After w a in
    (28 ∷ t.0, (wire.ZeroTag, whole zero_tag, t.0, t.0, fixed rules.fixed_tags (short refl (lit< tt)), is_whole is_zero_tag, t.1))
part_fill rules (head_of (a_size kind)) After w a = sized_fill rules kind After w a
part_fill rules (head_of simple_head) After w a = let t = sized_fill rules of_bytes After w a in (0 ∷ t.0, (t.0, fixed rules.fixed_tags (short refl (lit< tt)), t.1))

parts_fill : (rules : Rules) (ps : List Part) (After : List ℕ → Type 0) (w : List ℕ) → After w → (u : List ℕ) × Parts rules ps u After
parts_fill rules [] After w a = (w, a)
parts_fill rules (part ∷ below) After w a =
    let t = parts_fill rules below After w a in part_fill rules part (λ v. Parts rules below v After) t.0 t.1

-- a tag that fits
last_fits : (rising : Bool) (from : ℕ) → order_fault rising from 255 ≡ None
last_fits true from = go (leb from 255)
  where
    go : (b : Bool) → cond (b || true) None (Some why.Order) ≡ None
    go true = refl
    go false = refl
last_fits false from = refl

due : (b : Bool) → (wrong_tag b 0 0 ≡ None) × (wrong_tag b 1 1 ≡ None)
due true = (refl, refl)
due false = (refl, refl)

end_or_field : (rules : Rules) (ends : Bool) (from : ℕ) → (tag : ℕ) × (tag < 256) × (cond ends (wrong_tag rules.fixed_tags 0 tag) (order_fault rules.rising_tags from tag) ≡ None)
end_or_field rules true from = (0, lit< tt, (due rules.fixed_tags).0)
end_or_field rules false from = (255, lit< tt, last_fits rules.rising_tags from)

some_tag : (rules : Rules) (context : Context) (type : WireType) → (tag : ℕ) × (tag < 256) × (tag_fault rules (head_context context) type tag ≡ None)
unfolding tag_fault
some_tag rules (in_struct from room) type = end_or_field rules (is_end type) from
some_tag rules (an_element more room) type = (0, lit< tt, (due rules.fixed_tags).0)
some_tag rules (a_key more room) type = (0, lit< tt, (due rules.fixed_tags).0)
some_tag rules (its_value more room) type = (1, lit< tt, (due rules.fixed_tags).1)
some_tag rules (a_size kind) type = (0, lit< tt, (due rules.fixed_tags).0)
some_tag rules simple_head type = (0, lit< tt, (due rules.fixed_tags).0)

last_tag : (rules : Rules) (from : ℕ) (type : WireType) → tag_fault rules (heads.Body from) type 255 ≡ None
unfolding tag_fault
last_tag rules from type = last_fits rules.rising_tags from

goes_fill : (rules : Rules) (state : State) → (w : List ℕ) × Language rules state w
goes_fill rules (within (parts ps) from) = parts_fill rules ps (Body rules from) [] (no_fields, no_more_fields)
goes_fill rules (within (tag_of context type below) from) =
    let tag = some_tag rules context type in
    let t = parts_fill rules (after context tag.0 type below) (Body rules from) [] (no_fields, no_more_fields) in
    (tag.0 ∷ t.0, (tag.1, tag.2, t.1))
goes_fill rules (body_tag from type) =
    let t = parts_fill rules (contents MAX_DEPTH type []) (Body rules (255 + 1)) [] (no_fields, no_more_fields) in
    (255 ∷ t.0, (lit< tt, last_tag rules from type, t.1))

-- nothing begins with no bytes
no_head : {rules : Rules} {context : HeadContext} {B : WireType → ℕ → List ℕ → Type 0} → Form rules context [] B → ⊥
no_head f = elim f.head [ ]

pub part_ends : (rules : Rules) (part : Part) (After : List ℕ → Type 0) (below : List Part) → Parts rules (part ∷ below) [] After → ⊥
part_ends rules (raw more) After below x = x
part_ends rules (size_first kind more) After below x = x
part_ends rules (size_later kind more so_far) After below x = x
part_ends rules (head_of context) After below x = no_head (context_form rules context [] below After x)

goes_ends : (rules : Rules) (state : State) → Ends (Language rules state) (may_end state)
goes_ends rules (within (parts []) from) = (no_fields, no_more_fields)
goes_ends rules (within (parts (part ∷ below)) from) = part_ends rules part (Body rules from) below
goes_ends rules (within (tag_of context type below) from) = λ x. x
goes_ends rules (body_tag from type) = λ x. x

pub reads : (rules : Rules) → Reads (step rules) may_end IsByte (Language rules)
reads rules = record { there = goes_there rules; back = goes_back rules; fill = goes_fill rules; ends = goes_ends rules }
