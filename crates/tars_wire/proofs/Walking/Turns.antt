-- What a call of the cursor needs of the next field, and what it leaves.
use Rattle.std.proofs.Common.{◌≡◌, ◌<◌, ℕ, Bool, true, IsTrue, IsSome, IsOk, ℤ, List, ◌∷◌, Option, Some, None, Result, Ok, refl, sym, ap, ◌∙◌, subst}
use Rattle.wire_words.specs.Tree.{WireValue, whole, float, double, string1, string4, simple_list, list, map, struct}
use Rattle.tars_wire.specs.declared.wire_type.WireType.{WireType}
use Rattle.tars_wire.specs.declared.head.Head.{Head as ReadHead}
use Rattle.tars_wire.specs.declared.level.Level.{Level}
use Rattle.tars_wire.specs.declared.stop.Stop.{Stop}
use Rattle.tars_wire.specs.Heads.{opens}
use Rattle.tars_wire.specs.Spelled.{ALL, Contents, is_whole, is_float, is_double, is_string1, is_string4, is_simple_list, is_list, is_map, is_struct}
use Rattle.tars_wire.specs.ScanSteps.{contents_at}
use Rattle.tars_wire.specs.Left.{Remaining, type_of_value, value_of_number, number_in, text_in, simple_in, is_number_type, is_text_type, is_simple_type, next_of, head_left, skipped, of_next, Left}
use Rattle.tars_wire.specs.PrefixSteps.{simple_prefix, text_prefix, head_prefix, number_prefix, less}
use Rattle.tars_wire.proofs.Machine.Forms.{room_left}
use Rattle.tars_wire.proofs.Walking.Prefixes.{simple_prefix_is, text_prefix_is, number_prefix_is, contents_complete}
use Rattle.tars_wire.proofs.Walking.OneReading.{left_same}
use Rattle.tars_wire.proofs.Grammar.Types.{of_no_number}
use Rattle.tars_wire.proofs.Walking.OneField.{Turn, turn}
use Rattle.tars_wire.proofs.TestLemmas.{false_true, room_for}

none_some : {A : Type 0} {x : A} → None ≡ Some x → ⊥
none_some e = cc

-- the value that a type calls for
pub number_of_type : (v : WireValue) → is_number_type (type_of_value v) ≡ true → (n : ℤ) × (number_in v ≡ Some n)
number_of_type (whole n) e = (value_of_number n, refl)
number_of_type (float b) e = absurd (false_true e)
number_of_type (double b) e = absurd (false_true e)
number_of_type (string1 b) e = absurd (false_true e)
number_of_type (string4 b) e = absurd (false_true e)
number_of_type (simple_list b) e = absurd (false_true e)
number_of_type (list vs) e = absurd (false_true e)
number_of_type (map ps) e = absurd (false_true e)
number_of_type (struct fs) e = absurd (false_true e)

pub text_of_type : (v : WireValue) → is_text_type (type_of_value v) ≡ true → (text : List ℕ) × (text_in v ≡ Some text)
text_of_type (string1 b) e = (b, refl)
text_of_type (string4 b) e = (b, refl)
text_of_type (whole n) e = absurd (false_true (sym (of_no_number is_text_type (refl, refl, refl, refl, refl) n) ∙ e))
text_of_type (float b) e = absurd (false_true e)
text_of_type (double b) e = absurd (false_true e)
text_of_type (simple_list b) e = absurd (false_true e)
text_of_type (list vs) e = absurd (false_true e)
text_of_type (map ps) e = absurd (false_true e)
text_of_type (struct fs) e = absurd (false_true e)

pub simple_of_type : (v : WireValue) → is_simple_type (type_of_value v) ≡ true → (text : List ℕ) × (simple_in v ≡ Some text)
simple_of_type (simple_list b) e = (b, refl)
simple_of_type (whole n) e = absurd (false_true (sym (of_no_number is_simple_type (refl, refl, refl, refl, refl) n) ∙ e))
simple_of_type (float b) e = absurd (false_true e)
simple_of_type (double b) e = absurd (false_true e)
simple_of_type (string1 b) e = absurd (false_true e)
simple_of_type (string4 b) e = absurd (false_true e)
simple_of_type (list vs) e = absurd (false_true e)
simple_of_type (map ps) e = absurd (false_true e)
simple_of_type (struct fs) e = absurd (false_true e)

pub number_law : (room : ℕ) (type : WireType) (v : WireValue) (w rest : List ℕ) (n : ℤ) → Contents room type v w rest → number_in v ≡ Some n → number_prefix type w ≡ Some (n, rest)
number_law room type v w rest n (is_whole {number = number} spelled) e = number_prefix_is spelled ∙ ap (λ (o : Option ℤ). paired o) e
  where
    paired : Option ℤ → Option (ℤ × List ℕ)
    paired None = None
    paired (Some k) = Some (k, rest)
number_law room type v w rest n (is_float b f) e = absurd (none_some e)
number_law room type v w rest n (is_double b f) e = absurd (none_some e)
number_law room type v w rest n (is_string1 g b f) e = absurd (none_some e)
number_law room type v w rest n (is_string4 s g b f) e = absurd (none_some e)
number_law room type v w rest n (is_simple_list h s b f) e = absurd (none_some e)
number_law room type v w rest n (is_list d s f) e = absurd (none_some e)
number_law room type v w rest n (is_map d s f) e = absurd (none_some e)
number_law room type v w rest n (is_struct d s f) e = absurd (none_some e)

-- the first of a pair that was found, and the second
pub found_first : {A : Type 0} (a b : A) (x y : List ℕ) → (let s : Option (A × List ℕ) = Some (a, x) in s) ≡ Some (b, y) → a ≡ b
found_first {A} a b x y e = ap got e
  where
    got : Option (A × List ℕ) → A
    got None = a
    got (Some h) = h.0

pub found_second : {A : Type 0} (a b : A) (x y : List ℕ) → (let s : Option (A × List ℕ) = Some (a, x) in s) ≡ Some (b, y) → x ≡ y
found_second {A} a b x y e = ap got e
  where
    got : Option (A × List ℕ) → List ℕ
    got None = x
    got (Some h) = h.1

-- A sort of values, as one call reads them: `prefix` reads one, and `inside` is what it is in the tree.
pub record Reading (A : Type 0) : Type 0 where
  pub prefix : WireType → List ℕ → Option (A × List ℕ)
  pub inside : WireValue → Option A
  pub sort : WireType → Bool
  pub has : (v : WireValue) → sort (type_of_value v) ≡ true → (x : A) × (inside v ≡ Some x)
  pub law : (room : ℕ) (type : WireType) (v : WireValue) (w rest : List ℕ) (x : A) → Contents room type v w rest → inside v ≡ Some x → prefix type w ≡ Some (x, rest)

-- a call that reads a value
module _ {A : Type 0} (r : Reading A) (room : ℕ) (l : Level) (levels : List Level) (left : List Remaining) (w : List ℕ) (h : ReadHead)
    (spelled : Left room (l ∷ levels) left w) (is_next : head_left left ≡ Some h) (is_sort : r.sort h.kind ≡ true)
    (read : ReadHead) (following : List ℕ) (is_read : head_prefix w ≡ Some (read, following)) where
  the_turn : Turn room l levels left w h
  the_turn = turn room l levels left w h spelled is_next

  same_head : read ≡ h
  same_head = found_first read h following the_turn.following (sym is_read ∙ the_turn.prefix)

  same_rest : following ≡ the_turn.following
  same_rest = found_second read h following the_turn.following (sym is_read ∙ the_turn.prefix)

  the_value : (x : A) × (r.inside the_turn.v ≡ Some x)
  the_value = r.has the_turn.v (sym (ap r.sort the_turn.type) ∙ is_sort)

  the_prefix : r.prefix read.kind following ≡ Some (the_value.0, the_turn.mid)
  the_prefix =
      ap (λ (k : ReadHead). r.prefix k.kind following) same_head
      ∙ (ap (r.prefix h.kind) same_rest ∙ r.law room h.kind the_turn.v the_turn.following the_turn.mid the_value.0 the_turn.contents the_value.1)

  pub needs : IsSome (r.prefix read.kind following)
  needs = rw the_prefix refl

  module _ (x : A) (rest : List ℕ) (got : r.prefix read.kind following ≡ Some (x, rest)) where
    same_x : the_value.0 ≡ x
    same_x = found_first the_value.0 x the_turn.mid rest (sym the_prefix ∙ got)

    moved : Left room (less l ∷ levels) (skipped left) rest
    moved = subst (λ (r : List ℕ). Left room (less l ∷ levels) (skipped left) r) (found_second the_value.0 x the_turn.mid rest (sym the_prefix ∙ got)) the_turn.after

    pub leaves : (other : List Remaining) → Left room (l ∷ levels) other w → Left room (less l ∷ levels) (skipped other) rest
    leaves other y = subst (λ (o : List Remaining). Left room (less l ∷ levels) (skipped o) rest) (left_same room (l ∷ levels) left other w spelled y) moved

    value_here : of_next r.inside (next_of left) ≡ Some x
    value_here = ap (of_next r.inside) the_turn.next ∙ (the_value.1 ∙ ap (λ (k : A). Some k) same_x)

    pub tells : (other : List Remaining) → Left room (l ∷ levels) other w → of_next r.inside (next_of other) ≡ Some x
    tells other y = subst (λ (o : List Remaining). of_next r.inside (next_of o) ≡ Some x) (left_same room (l ∷ levels) left other w spelled y) value_here

-- and one that goes past whatever value
module _ (room : ℕ) (l : Level) (levels : List Level) (left : List Remaining) (w : List ℕ) (h : ReadHead)
    (spelled : Left room (l ∷ levels) left w) (is_next : head_left left ≡ Some h)
    (read : ReadHead) (following : List ℕ) (is_read : head_prefix w ≡ Some (read, following)) where
  a_turn : Turn room l levels left w h
  a_turn = turn room l levels left w h spelled is_next

  passed : contents_at room read.kind following ≡ Ok a_turn.mid
  passed =
      ap (λ (k : ReadHead). contents_at room k.kind following) (found_first read h following a_turn.following (sym is_read ∙ a_turn.prefix))
      ∙ (ap (contents_at room h.kind) (found_second read h following a_turn.following (sym is_read ∙ a_turn.prefix)) ∙ contents_complete a_turn.contents)

  pub can_pass : IsOk (contents_at room read.kind following)
  can_pass = rw passed refl

  pub has_room : IsTrue (opens read.kind) → 0 < room
  has_room t = room_for (opens h.kind) room (room_left ALL a_turn.contents) (sym (ap (λ (k : ReadHead). opens k.kind) (found_first read h following a_turn.following (sym is_read ∙ a_turn.prefix))) ∙ t)

  module _ (rest : List ℕ) (got : contents_at room read.kind following ≡ Ok rest) where
    mid_is : a_turn.mid ≡ rest
    mid_is = ok_same a_turn.mid rest (sym passed ∙ got)
      where
        ok_same : (x y : List ℕ) → (let s : Result (List ℕ) Stop = Ok x in s) ≡ Ok y → x ≡ y
        ok_same x y e = cc

    pub skips : (other : List Remaining) → Left room (l ∷ levels) other w → Left room (less l ∷ levels) (skipped other) rest
    skips other y =
        subst (λ (o : List Remaining). Left room (less l ∷ levels) (skipped o) rest) (left_same room (l ∷ levels) left other w spelled y)
        (subst (λ (r : List ℕ). Left room (less l ∷ levels) (skipped left) r) mid_is a_turn.after)

pub head_needs : (room : ℕ) (l : Level) (levels : List Level) (left : List Remaining) (w : List ℕ) (h : ReadHead) → Left room (l ∷ levels) left w → head_left left ≡ Some h → IsSome (head_prefix w)
head_needs room l levels left w h x e = let t = turn room l levels left w h x e in rw t.prefix refl

pub simple_law : (room : ℕ) (type : WireType) (v : WireValue) (w rest : List ℕ) (bytes : List ℕ) → Contents room type v w rest → simple_in v ≡ Some bytes → simple_prefix w ≡ Some (bytes, rest)
simple_law room type v w rest bytes spelled e = simple_prefix_is bytes spelled e

pub text_law : (room : ℕ) (type : WireType) (v : WireValue) (w rest : List ℕ) (text : List ℕ) → Contents room type v w rest → text_in v ≡ Some text → text_prefix type w ≡ Some (text, rest)
text_law room type v w rest text spelled e = text_prefix_is text spelled e

-- the sorts that calls read
abbrev pub numbers : Reading ℤ
numbers = record { prefix = number_prefix; inside = number_in; sort = is_number_type; has = number_of_type; law = number_law }

abbrev pub texts : Reading (List ℕ)
texts = record { prefix = text_prefix; inside = text_in; sort = is_text_type; has = text_of_type; law = text_law }

abbrev pub simple_lists : Reading (List ℕ)
simple_lists = record { prefix = λ type w. simple_prefix w; inside = simple_in; sort = is_simple_type; has = simple_of_type; law = simple_law }
