-- What is read of contents of each kind, where what is inside them is read as it says.
use Rattle.std.proofs.Common.{◌≡◌, ◌<◌, ℕ, suc, ◌+◌, ◌-◌, Bool, true, false, cond, List, [], ◌∷◌, Some, Ok, Err, refl, ap, ◌∙◌, subst}
use Rattle.facts.specs.ResultSteps.{◌>>=◌}
use Rattle.wire_words.specs.Tree.{WireNumber}
use Rattle.tars_model.specs.Declarations.{Declared, members_at}
use Rattle.tars_model.specs.Types.{TyLayer}
use Rattle.tars_model.specs.Values.{is_byte}
use Rattle.tars_model.specs.declared.ty.Ty.{Ty, out-Ty}
use Rattle.tars_model.specs.declared.ty.Ty.TheOpen as ty
use Rattle.tars_model.specs.declared.value.Value.{Value}
use Rattle.tars_model.specs.declared.value.Value.TheVariants as values
use Rattle.tars_model.specs.declared.value.Pair.{Pair}
use Rattle.tars_wire.specs.declared.wire_type.WireType.{WireType}
use Rattle.tars_wire.specs.declared.wire_type.WireType.TheVariants as wire
use Rattle.tars_wire.specs.Heads.{Head}
use Rattle.tars_wire.specs.Left.{value_of_number}
use Rattle.tars_wire.specs.Spelled.{Number, is_zero_tag, is_int1, is_int2, is_int4, is_int8, Size}
use Rattle.tars_wire.specs.PrefixSteps.{number_prefix, text_prefix, simple_prefix, size_prefix}
use Rattle.tars_wire.proofs.Walking.Prefixes.{head_prefix_is, number_prefix_is, size_prefix_is}
use Rattle.tars_decode.specs.declared.refuse.Misfit.TheVariants.{WrongType, Range}
use Rattle.tars_decode.specs.Reads.{Read, in_step, misfit, bytes_of, most_bytes, in_range, number_value, is_within, number_in_range, number_as, text_as, blob_as, list_as, vector_of, map_as, struct_as, members_of, Saying}
use Rattle.tars_decode.specs.ReadingSteps.{Walk, Inner, Past, MOST_TURNS, no_fit, type_bytes, ranged, number_at, text_at, simple_at, elements_at, list_at, entries_at, map_at, members_from, end_at, struct_at, item_at, element_at, step_in, past_at, kind_at, value_at}
use Rattle.tars_decode.proofs.Laws.Joined.{joined, step_joined, made, one_joined}
use Rattle.tars_decode.proofs.Laws.Skipping.{room_is}

-- ---- numbers

in_range_is : (b : Bool) (v : Value) (rest : List ℕ) → cond b (Ok (v, rest)) (no_fit Range) ≡ joined (cond b (Ok v) (misfit Range)) rest
in_range_is true v rest = refl
in_range_is false v rest = refl

within_is : (b : Bool) (walk : Walk Value) (read : Read Value) (rest : List ℕ) → walk ≡ joined read rest → cond b walk (no_fit WrongType) ≡ joined (cond b read (misfit WrongType)) rest
within_is true walk read rest e = e
within_is false walk read rest e = refl

number_read : (l : TyLayer) (type : WireType) (n : WireNumber) (w rest : List ℕ) → number_prefix type w ≡ Some (value_of_number n, rest) → type_bytes type ≡ bytes_of n → number_at l type w ≡ joined (number_as n l) rest
unfolding number_at
number_read l type n w rest e size =
    rw (e, size) (within_is (is_within (bytes_of n) (most_bytes l)) (ranged l (value_of_number n) rest) (number_in_range l (value_of_number n)) rest (in_range_is (in_range l (value_of_number n)) (number_value l (value_of_number n)) rest))

number_kind : {type : WireType} {n : WireNumber} {w rest : List ℕ} → Number type n w rest → (inner : Inner) (past : Past) (d : Declared) (t : Ty) → kind_at inner past d t type w ≡ joined (number_as n (out-Ty t)) rest
unfolding kind_at
number_kind {type} {n} {w} {rest} is_zero_tag inner past d t = number_read (out-Ty t) type n w rest (number_prefix_is is_zero_tag) refl
number_kind {type} {n} {w} {rest} (is_int1 bytes e) inner past d t = number_read (out-Ty t) type n w rest (number_prefix_is (is_int1 bytes e)) refl
number_kind {type} {n} {w} {rest} (is_int2 bytes e) inner past d t = number_read (out-Ty t) type n w rest (number_prefix_is (is_int2 bytes e)) refl
number_kind {type} {n} {w} {rest} (is_int4 bytes e) inner past d t = number_read (out-Ty t) type n w rest (number_prefix_is (is_int4 bytes e)) refl
number_kind {type} {n} {w} {rest} (is_int8 bytes e) inner past d t = number_read (out-Ty t) type n w rest (number_prefix_is (is_int8 bytes e)) refl

pub number_law : {type : WireType} {n : WireNumber} {w rest : List ℕ} (room : ℕ) → Number type n w rest → (d : Declared) (t : Ty) → value_at (suc room) d t type w ≡ joined (number_as n (out-Ty t)) rest
unfolding value_at
number_law room number d t = number_kind number (value_at room d) (past_at room) d t

pub float_law : (room : ℕ) (w rest : List ℕ) (d : Declared) (t : Ty) → value_at (suc room) d t wire.Float w ≡ joined (misfit WrongType) rest
unfolding value_at kind_at
float_law room w rest d t = refl

pub double_law : (room : ℕ) (w rest : List ℕ) (d : Declared) (t : Ty) → value_at (suc room) d t wire.Double w ≡ joined (misfit WrongType) rest
unfolding value_at kind_at
double_law room w rest d t = refl

-- ---- texts and simple lists

text_read : (l : TyLayer) (type : WireType) (text w rest : List ℕ) → text_prefix type w ≡ Some (text, rest) → text_at l type w ≡ joined (text_as text l) rest
unfolding text_at
text_read ty.Text type text w rest e = rw e refl
text_read _ type text w rest e = refl

pub string1_law : (room : ℕ) (text w rest : List ℕ) → text_prefix wire.String1 w ≡ Some (text, rest) → (d : Declared) (t : Ty) → value_at (suc room) d t wire.String1 w ≡ joined (text_as text (out-Ty t)) rest
unfolding value_at kind_at
string1_law room text w rest e d t = text_read (out-Ty t) wire.String1 text w rest e

pub string4_law : (room : ℕ) (text w rest : List ℕ) → text_prefix wire.String4 w ≡ Some (text, rest) → (d : Declared) (t : Ty) → value_at (suc room) d t wire.String4 w ≡ joined (text_as text (out-Ty t)) rest
unfolding value_at kind_at
string4_law room text w rest e d t = text_read (out-Ty t) wire.String4 text w rest e

simple_read : (l : TyLayer) (bytes w rest : List ℕ) → simple_prefix w ≡ Some (bytes, rest) → simple_at l w ≡ joined (blob_as bytes l) rest
unfolding simple_at
simple_read (ty.Vector of) bytes w rest e = rw e (within_is (is_byte (out-Ty of)) (Ok (values.Blob bytes, rest)) (Ok (values.Blob bytes)) rest refl)
simple_read _ bytes w rest e = refl

pub simple_law : (room : ℕ) (bytes w rest : List ℕ) → simple_prefix w ≡ Some (bytes, rest) → (d : Declared) (t : Ty) → value_at (suc room) d t wire.SimpleList w ≡ joined (blob_as bytes (out-Ty t)) rest
unfolding value_at kind_at
simple_law room bytes w rest e d t = simple_read (out-Ty t) bytes w rest e

-- ---- lists

list_read : (inner : Inner) (l : TyLayer) (elements : Ty → Read (List Value)) (n : ℕ) (w following rest : List ℕ) → size_prefix w ≡ Some (n, following) → ((of : Ty) → elements_at inner of 0 n following ≡ joined (elements of) rest) → list_at inner l w ≡ joined (list_as elements l) rest
unfolding list_at
list_read inner (ty.Vector of) elements n w following rest e each =
    rw (e, each of) (made (vector_of of) (elements of) rest)
list_read inner _ elements n w following rest e each = refl

pub list_law : {n : ℕ} {w following : List ℕ} (rest : List ℕ) (room : ℕ) → 0 < room → Size n w following → (d : Declared) (elements : Ty → Read (List Value)) → ((of : Ty) → elements_at (value_at (suc (room - 1)) d) of 0 n following ≡ joined (elements of) rest) → (t : Ty) → value_at (suc room) d t wire.List w ≡ joined (list_as elements (out-Ty t)) rest
unfolding value_at kind_at
list_law {n} {w} {following} rest room some size d elements each t =
    list_read (value_at room d) (out-Ty t) elements n w following rest (size_prefix_is size) (λ of. subst (λ r. elements_at (value_at r d) of 0 n following ≡ joined (elements of) rest) (room_is room some) (each of))

pub no_elements : (inner : Inner) (of : Ty) (i : ℕ) (w : List ℕ) → elements_at inner of i 0 w ≡ Ok ([], w)
unfolding elements_at
no_elements inner of i w = refl

item_law : (inner : Inner) (t : Ty) (read : Read Value) (tag : ℕ) (type : WireType) (w following next : List ℕ) → Head tag type w following → inner t type following ≡ joined read next → item_at inner t w ≡ joined read next
unfolding item_at
item_law inner t read tag type w following next head e = rw (head_prefix_is head) e

pub item_read : (inner : Inner) (t : Ty) (read : Read Value) (tag : ℕ) (type : WireType) (w following next : List ℕ) → Head tag type w following → inner t type following ≡ joined read next → item_at inner t w ≡ joined read next
item_read inner t read tag type w following next head e = item_law inner t read tag type w following next head e

pub element_read : (inner : Inner) (t : Ty) (step : ℕ) (read : Read Value) (tag : ℕ) (type : WireType) (w following next : List ℕ) → Head tag type w following → inner t type following ≡ joined read next → element_at inner t step w ≡ step_in step (joined read next)
unfolding element_at
element_read inner t step read tag type w following next head e = ap (step_in step) (item_law inner t read tag type w following next head e)

pub elements_law : (inner : Inner) (of : Ty) (i n : ℕ) (first : Read Value) (others : Read (List Value)) (tag : ℕ) (type : WireType) (w following next rest : List ℕ) → Head tag type w following → inner of type following ≡ joined first next → elements_at inner of (i + 1) n next ≡ joined others rest
    → elements_at inner of i (suc n) w ≡ joined (in_step i first >>= λ x. others >>= λ xs. Ok (x ∷ xs)) rest
unfolding elements_at
elements_law inner of i n first others tag type w following next rest head e later =
    let one : element_at inner of i w ≡ joined (in_step i first) next = element_read inner of i first tag type w following next head e ∙ step_joined i first next in
    rw one (one_joined (in_step i first) others (elements_at inner of (i + 1) n) next rest later)

-- ---- maps and structs

map_read : (inner : Inner) (l : TyLayer) (entries : Ty → Ty → Read (List Pair)) (n : ℕ) (w following rest : List ℕ) → size_prefix w ≡ Some (n, following) → ((key to : Ty) → entries_at inner key to 0 n [] following ≡ joined (entries key to) rest) → map_at inner l w ≡ joined (map_as entries l) rest
unfolding map_at
map_read inner (ty.Map key to) entries n w following rest e each = rw (e, each key to) (made values.Map (entries key to) rest)
map_read inner _ entries n w following rest e each = refl

pub map_law : {n : ℕ} {w following : List ℕ} (rest : List ℕ) (room : ℕ) → 0 < room → Size n w following → (d : Declared) (entries : Ty → Ty → Read (List Pair)) → ((key to : Ty) → entries_at (value_at (suc (room - 1)) d) key to 0 n [] following ≡ joined (entries key to) rest) → (t : Ty) → value_at (suc room) d t wire.Map w ≡ joined (map_as entries (out-Ty t)) rest
unfolding value_at kind_at
map_law {n} {w} {following} rest room some size d entries each t =
    map_read (value_at room d) (out-Ty t) entries n w following rest (size_prefix_is size) (λ key to. subst (λ r. entries_at (value_at r d) key to 0 n [] following ≡ joined (entries key to) rest) (room_is room some) (each key to))

-- what is read of members, and the struct's end after it
pub record MembersEnd (inner : Inner) (past : Past) (d : Declared) (said : List Saying) (number : ℕ) (w rest : List ℕ) : Type 0 where
  pub mid : List ℕ
  pub members : members_from inner past (members_at d number) w ≡ joined (members_of (members_at d number) said) mid
  pub close : end_at past MOST_TURNS mid ≡ Ok rest

closed : (read : Read (List Value)) (past : Past) (mid rest : List ℕ) → end_at past MOST_TURNS mid ≡ Ok rest → (joined read mid >>= λ vs. end_at past MOST_TURNS vs.1 >>= λ after. Ok (values.Struct vs.0, after)) ≡ joined (read >>= λ vs. Ok (values.Struct vs)) rest
closed (Ok vs) past mid rest e = ap (λ r. r >>= λ after. Ok (values.Struct vs, after)) e
closed (Err refusal) past mid rest e = refl

struct_read : (inner : Inner) (past : Past) (d : Declared) (l : TyLayer) (said : List Saying) (w rest : List ℕ) → ((number : ℕ) → MembersEnd inner past d said number w rest) → struct_at inner past d l w ≡ joined (struct_as said d l) rest
unfolding struct_at
struct_read inner past d (ty.Struct number) said w rest each =
    let m = each number in
    ap (λ r. r >>= λ vs. end_at past MOST_TURNS vs.1 >>= λ after. Ok (values.Struct vs.0, after)) m.members ∙ closed (members_of (members_at d number) said) past m.mid rest m.close
struct_read inner past d _ said w rest each = refl

pub struct_law : {w rest : List ℕ} (room : ℕ) → 0 < room → (d : Declared) (said : List Saying) → ((number : ℕ) → MembersEnd (value_at (suc (room - 1)) d) (past_at (suc (room - 1))) d said number w rest) → (t : Ty) → value_at (suc room) d t wire.StructBegin w ≡ joined (struct_as said d (out-Ty t)) rest
unfolding value_at kind_at
struct_law {w} {rest} room some d said each t =
    struct_read (value_at room d) (past_at room) d (out-Ty t) said w rest (λ number. subst (λ r. MembersEnd (value_at r d) (past_at r) d said number w rest) (room_is room some) (each number))
