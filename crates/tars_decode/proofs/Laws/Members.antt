-- Members are read by the fields of their tags.
use Rattle.std.proofs.Common.{◌≡◌, ◌<◌, ◌≤◌, ℕ, zero, suc, ◌+◌, Bool, true, false, cond, eqb, List, [], ◌∷◌, length, Option, Some, None, Ok, Err, refl, sym, ap, ◌∙◌, subst, arith}
use Rattle.std.proofs.lemmas.Bool.{lt-ltb, le-ltb}
use Rattle.std.proofs.lemmas.Bool.Decides.{nat_tests}
use Rattle.facts.specs.ResultSteps.{◌>>=◌}
use Rattle.wire_words.specs.Tree.{WireValue, WireFields, field}
use Rattle.tars_model.specs.Declarations.{Declared}
use Rattle.tars_model.specs.Members.{IsBelowNext, HaveRisingTags}
use Rattle.tars_model.specs.declared.member.Member.{Member}
use Rattle.tars_model.specs.declared.ty.Ty.{Ty}
use Rattle.tars_model.specs.declared.value.Value.{Value}
use Rattle.tars_wire.specs.declared.wire_type.WireType.{WireType}
use Rattle.tars_wire.specs.Heads.{Head, short, long, is_end}
use Rattle.tars_wire.proofs.Grammar.Unique.{Stops, all_read, at_close}
use Rattle.tars_wire.proofs.Walking.Prefixes.{head_prefix_is}
use Rattle.tars_decode.specs.declared.halt.Halt.TheVariants.{Refused}
use Rattle.tars_decode.specs.declared.halt.Refusal.TheVariants.{Missing}
use Rattle.tars_decode.specs.Reads.{Read, Saying, said_under, member_of, members_of, says, sayings}
use Rattle.tars_decode.specs.ReadingSteps.{Walk, Inner, Past, meet_at, turn_at, seek_at, absent, member_at, members_from, past_at, value_at}
use Rattle.tars_decode.proofs.Laws.Fields.{FieldsWith, none_with, one_with}
use Rattle.tars_decode.proofs.Laws.Joined.{joined, step_joined, one_joined}

-- a field's contents are skipped, and read as they say
pub record IsRead (d : Declared) (room : ℕ) (type : WireType) (v : WireValue) (following next : List ℕ) : Type 0 where
  pub skips : past_at (suc room) type following ≡ Ok next
  pub reads : (t : Ty) → value_at (suc room) d t type following ≡ joined (says v d t) next

abbrev pub Fields : Declared → ℕ → ℕ → WireFields → List ℕ → List ℕ → Type 0
Fields d room from fs w mid = FieldsWith (IsRead d room) from fs w mid

-- ---- one turn of seeking

differ : (a b : ℕ) → a < b → eqb a b ≡ false
differ a b lt = grind (arith, nat_tests)

same : (a : ℕ) → eqb a a ≡ true
same a = grind (arith, nat_tests)

some_bytes : {tag : ℕ} {type : WireType} {w following : List ℕ} → Head tag type w following → eqb (length w) 0 ≡ false
some_bytes (short e below) = grind (arith, nat_tests)
some_bytes (long e below) = grind (arith, nat_tests)

turn_before : (past : Past) (wanted tag : ℕ) (type : WireType) (w following next : List ℕ) (n : ℕ) → Head tag type w following → is_end type ≡ false → tag < wanted → past type following ≡ Ok next → seek_at past wanted (suc n) w ≡ seek_at past wanted n next
unfolding seek_at turn_at meet_at
turn_before past wanted tag type w following next n head inside lt goes =
    rw (some_bytes head, head_prefix_is head, inside, le-ltb wanted tag (omega arith), differ tag wanted lt, goes) refl

turn_here : (past : Past) (tag : ℕ) (type : WireType) (w following : List ℕ) (n : ℕ) → Head tag type w following → is_end type ≡ false → seek_at past tag (suc n) w ≡ Ok (Some type, following)
unfolding seek_at turn_at meet_at
turn_here past tag type w following n head inside =
    rw (some_bytes head, head_prefix_is head, inside, le-ltb tag tag (omega arith), same tag) refl

turn_beyond : (past : Past) (wanted tag : ℕ) (type : WireType) (w following : List ℕ) (n : ℕ) → Head tag type w following → is_end type ≡ false → wanted < tag → seek_at past wanted (suc n) w ≡ Ok (None, w)
unfolding seek_at turn_at meet_at
turn_beyond past wanted tag type w following n head inside lt =
    rw (some_bytes head, head_prefix_is head, inside, lt-ltb wanted tag lt) refl

turn_stops : {w : List ℕ} (past : Past) (wanted n : ℕ) → Stops w → seek_at past wanted n w ≡ Ok (None, w)
unfolding seek_at turn_at meet_at
turn_stops past wanted zero stops = refl
turn_stops past wanted (suc n) all_read = refl
turn_stops past wanted (suc n) (at_close head) = rw (some_bytes head, head_prefix_is head) refl

no_turns : (past : Past) (wanted : ℕ) (w : List ℕ) → seek_at past wanted 0 w ≡ Ok (None, w)
unfolding seek_at
no_turns past wanted w = refl

-- ---- what fields say under a tag

-- no field has a tag below the first
not_said : {Each : WireType → WireValue → List ℕ → List ℕ → Type 0} {from : ℕ} {fs : WireFields} {w mid : List ℕ} → FieldsWith Each from fs w mid → (d : Declared) (tag : ℕ) → tag < from → said_under tag (sayings fs d) ≡ None
not_said none_with d tag lt = refl
not_said (one_with {tag = tag'} head above inside each more) d tag lt =
    rw (not_equal tag' tag (omega arith)) (not_said more d tag (omega arith))
  where
    not_equal : (a b : ℕ) → b < a → eqb a b ≡ false
    not_equal a b lt = grind (arith, nat_tests)

-- ---- the field of a tag

-- the field was found, or there is none; what is left says the same under later tags
pub data Sought (d : Declared) (room tag : ℕ) (fs : WireFields) (mid : List ℕ) : Walk (Option WireType) → Type 0 where
  found : {walk : Walk (Option WireType)} {from : ℕ} {type : WireType} {says : Ty → Read Value} {others : WireFields} {following next : List ℕ} → walk ≡ Ok (Some type, following) → said_under tag (sayings fs d) ≡ Some says → ((t : Ty) → value_at (suc room) d t type following ≡ joined (says t) next) → Fields d room from others next mid → ((t : ℕ) → tag + 1 ≤ t → said_under t (sayings fs d) ≡ said_under t (sayings others d)) → Sought d room tag fs mid walk
  missing : {walk : Walk (Option WireType)} {from : ℕ} {others : WireFields} {next : List ℕ} → walk ≡ Ok (None, next) → said_under tag (sayings fs d) ≡ None → Fields d room from others next mid → ((t : ℕ) → tag + 1 ≤ t → said_under t (sayings fs d) ≡ said_under t (sayings others d)) → Sought d room tag fs mid walk

-- one field further
further : {d : Declared} {room tag : ℕ} {fs : WireFields} {mid : List ℕ} {walk : Walk (Option WireType)} → Sought d room tag fs mid walk → (longer : Walk (Option WireType)) (tag' : ℕ) (v : WireValue) → longer ≡ walk → tag' < tag → Sought d room tag (field tag' v fs) mid longer
further {d} {room} {tag} {fs} (found {says = says} {others = others} is said each left later) longer tag' v e lt =
    found (e ∙ is) (rw (differ tag' tag lt) said) each left (λ t le. rw (differ tag' t (omega arith)) (later t le))
further {d} {room} {tag} {fs} (missing {others = others} is said left later) longer tag' v e lt =
    missing (e ∙ is) (rw (differ tag' tag lt) said) left (λ t le. rw (differ tag' t (omega arith)) (later t le))

data Order (a b : ℕ) : Type 0 where
  before : a < b → Order a b
  here : a ≡ b → Order a b
  beyond : b < a → Order a b

order : (a b : ℕ) → Order a b
order zero zero = here refl
order zero (suc b) = before (omega arith)
order (suc a) zero = beyond (omega arith)
order (suc a) (suc b) = elim (order a b) [ before lt ↦ before (omega arith) | here e ↦ here (ap suc e) | beyond lt ↦ beyond (omega arith) ]

here_found : {d : Declared} {room : ℕ} {fs : WireFields} {type : WireType} {v : WireValue} {w following next mid : List ℕ} (tag tag' n : ℕ) → tag' ≡ tag → Head tag' type w following → is_end type ≡ false → IsRead d room type v following next → Fields d room (tag' + 1) fs next mid → Sought d room tag (field tag' v fs) mid (seek_at (past_at (suc room)) tag (suc n) w)
here_found {d} {room} {fs} {type} {v} {w} {following} {next} {mid} tag tag' n e head inside each more =
    subst (λ k. Sought d room k (field tag' v fs) mid (seek_at (past_at (suc room)) k (suc n) w)) e
    (found (turn_here (past_at (suc room)) tag' type w following n head inside) (rw (same tag') refl) each.reads more (λ t le. rw (differ tag' t (omega arith)) refl))

-- the three ways in which a field stands to a tag
by_order : {d : Declared} {room from tag' : ℕ} {type : WireType} {v : WireValue} {fs : WireFields} {w following next mid : List ℕ} (tag n : ℕ) → Order tag' tag → Head tag' type w following → from ≤ tag' → is_end type ≡ false → IsRead d room type v following next → Fields d room (tag' + 1) fs next mid
    → (tag < tag' + 1 + n → Sought d room tag fs mid (seek_at (past_at (suc room)) tag n next)) → tag < from + suc n → Sought d room tag (field tag' v fs) mid (seek_at (past_at (suc room)) tag (suc n) w)
by_order {d} {room} {from} {tag'} {type} {v} {fs} {w} {following} {next} {mid} tag n (before lt) head above inside each more later enough =
    further (later (omega arith)) (seek_at (past_at (suc room)) tag (suc n) w) tag' v (turn_before (past_at (suc room)) tag tag' type w following next n head inside lt each.skips) lt
by_order {d} {room} {from} {tag'} {type} {v} {fs} {w} {following} {next} {mid} tag n (here e) head above inside each more later enough =
    here_found tag tag' n e head inside each more
by_order {d} {room} {from} {tag'} {type} {v} {fs} {w} {following} {next} {mid} tag n (beyond lt) head above inside each more later enough =
    missing {from = tag'} (turn_beyond (past_at (suc room)) tag tag' type w following n head inside lt) (not_said (one_with {from = tag'} head (omega arith) inside each more) d tag lt) (one_with {from = tag'} head (omega arith) inside each more) (λ t le. refl)

pub seek_law : {d : Declared} {room from : ℕ} {fs : WireFields} {w mid : List ℕ} → Fields d room from fs w mid → Stops mid → (tag n : ℕ) → tag < from + n → Sought d room tag fs mid (seek_at (past_at (suc room)) tag n w)
seek_law {d} {room} {from} none_with stops tag n enough = missing {from = from} (turn_stops (past_at (suc room)) tag n stops) refl none_with (λ t le. refl)
seek_law {d} {room} {from} {fs} {w} {mid} (one_with head above inside each more) stops tag zero enough =
    missing (no_turns (past_at (suc room)) tag w) (not_said (one_with head above inside each more) d tag (omega arith)) (one_with head above inside each more) (λ t le. refl)
seek_law {d} {room} {from} {fs} {w} {mid} (one_with {tag = tag'} {type = type} {v = v} {fs = fs'} {following = following} {next = next} head above inside each more) stops tag (suc n) enough =
    by_order tag n (order tag' tag) head above inside each more (seek_law more stops tag n)
    enough

-- ---- a member

abbrev with_rest : List ℕ → Value → Walk Value
with_rest rest v = Ok (v, rest)

abbrev member_value_none : Member → List ℕ → Walk Value
member_value_none m rest = absent m >>= with_rest rest

absent_is : (m : Member) (rest : List ℕ) → member_value_none m rest ≡ joined (member_of m None) rest
unfolding absent
absent_is m rest = by_require m.require
  where
    by_require : (b : Bool) → (cond b (Err (Refused (Missing (m.tag ∷ [])))) (Ok m.default) >>= with_rest rest) ≡ joined (cond b (Err (Missing (m.tag ∷ []))) (Ok m.default)) rest
    by_require true = refl
    by_require false = refl

-- a member is read by what its field says, and what is left is read so too
pub record MemberRead (d : Declared) (room : ℕ) (m : Member) (fs : WireFields) (w mid : List ℕ) : Type 0 where
  pub from : ℕ
  pub others : WireFields
  pub rest : List ℕ
  pub left : Fields d room from others rest mid
  pub is : member_at (value_at (suc room) d) (past_at (suc room)) m w ≡ joined (member_of m (said_under m.tag (sayings fs d))) rest
  pub later : (t : ℕ) → m.tag + 1 ≤ t → said_under t (sayings fs d) ≡ said_under t (sayings others d)

found_is : (inner : Inner) (past : Past) (m : Member) (says : Ty → Read Value) (type : WireType) (w following next : List ℕ) → seek_at past m.tag (m.tag + 1) w ≡ Ok (Some type, following) → inner m.ty type following ≡ joined (says m.ty) next → member_at inner past m w ≡ joined (member_of m (Some says)) next
unfolding member_at
found_is inner past m says type w following next e read = rw (e, read) (step_joined m.tag (says m.ty) next)

missing_is : (inner : Inner) (past : Past) (m : Member) (w rest : List ℕ) → seek_at past m.tag (m.tag + 1) w ≡ Ok (None, rest) → member_at inner past m w ≡ joined (member_of m None) rest
unfolding member_at
missing_is inner past m w rest e = rw e (absent_is m rest)

member_read : {d : Declared} {room : ℕ} {fs : WireFields} {w mid : List ℕ} (m : Member) → Sought d room m.tag fs mid (seek_at (past_at (suc room)) m.tag (m.tag + 1) w) → MemberRead d room m fs w mid
member_read {d} {room} {fs} {w} m (found {from = from} {type = type} {says = says} {others = others} {following = following} {next = next} is said each left later) =
    record {
      from = from;
      others = others;
      rest = next;
      left = left;
      later = later;
      is = found_is (value_at (suc room) d) (past_at (suc room)) m says type w following next is (each m.ty) ∙ ap (λ o. joined (member_of m o) next) (sym said);
    }
member_read {d} {room} {fs} {w} m (missing {from = from} {others = others} {next = next} is said left later) =
    record {
      from = from;
      others = others;
      rest = next;
      left = left;
      later = later;
      is = missing_is (value_at (suc room) d) (past_at (suc room)) m w next is ∙ ap (λ o. joined (member_of m o) next) (sym said);
    }

-- ---- all members

-- what is said alike under later tags is read alike of later members
same_members : (ms : List Member) (tag : ℕ) (ss rs : List Saying) → IsBelowNext tag ms → HaveRisingTags ms → ((t : ℕ) → tag + 1 ≤ t → said_under t ss ≡ said_under t rs) → members_of ms ss ≡ members_of ms rs
same_members [] tag ss rs below rise later = refl
same_members (m ∷ ms) tag ss rs below rise later =
    let first : said_under m.tag ss ≡ said_under m.tag rs = later m.tag (omega arith) in
    let others = same_members ms m.tag ss rs rise.0 rise.1 (λ t le. later t (omega arith)) in
    rw (first, others) refl

pub record MembersRead (d : Declared) (room : ℕ) (ms : List Member) (fs : WireFields) (w mid : List ℕ) : Type 0 where
  pub from : ℕ
  pub others : WireFields
  pub rest : List ℕ
  pub left : Fields d room from others rest mid
  pub is : members_from (value_at (suc room) d) (past_at (suc room)) ms w ≡ joined (members_of ms (sayings fs d)) rest

no_members : (inner : Inner) (past : Past) (w : List ℕ) → members_from inner past [] w ≡ Ok ([], w)
unfolding members_from
no_members inner past w = refl

one_member : (inner : Inner) (past : Past) (m : Member) (ms : List Member) (first : Read Value) (others : Read (List Value)) (w next rest : List ℕ) → member_at inner past m w ≡ joined first next → members_from inner past ms next ≡ joined others rest → members_from inner past (m ∷ ms) w ≡ joined (first >>= λ x. others >>= λ xs. Ok (x ∷ xs)) rest
unfolding members_from
one_member inner past m ms first others w next rest e later = rw e (one_joined first others (members_from inner past ms) next rest later)

pub members_law : {d : Declared} {room : ℕ} {mid : List ℕ} (ms : List Member) → HaveRisingTags ms → {from : ℕ} {fs : WireFields} {w : List ℕ} → Fields d room from fs w mid → Stops mid → MembersRead d room ms fs w mid
members_law {d} {room} {mid} [] rise {from} {fs} {w} fields stops = record { from = from; others = fs; rest = w; left = fields; is = no_members (value_at (suc room) d) (past_at (suc room)) w }
members_law {d} {room} {mid} (m ∷ ms) rise {from} {fs} {w} fields stops =
    let one = member_read m (seek_law fields stops m.tag (m.tag + 1) (omega arith)) in
    let others = members_law ms rise.1 one.left stops in
    let alike = same_members ms m.tag (sayings fs d) (sayings one.others d) rise.0 rise.1 one.later in
    let is : members_from (value_at (suc room) d) (past_at (suc room)) ms one.rest ≡ joined (members_of ms (sayings fs d)) others.rest = others.is ∙ ap (λ r. joined r others.rest) (sym alike) in
    record {
      from = others.from;
      others = others.others;
      rest = others.rest;
      left = others.left;
      is = one_member (value_at (suc room) d) (past_at (suc room)) m ms (member_of m (said_under m.tag (sayings fs d))) (members_of ms (sayings fs d)) w one.rest others.rest one.is is;
    }
