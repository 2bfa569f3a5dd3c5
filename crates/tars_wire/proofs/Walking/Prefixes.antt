-- What is spelled where bytes begin is what the code reads there.
use Rattle.std.proofs.Common.{◌≡◌, ◌<◌, ◌^◌, ℕ, suc, ◌+◌, ◌*◌, Bool, true, false, cond, ltb, pos, List, [], ◌∷◌, length, take, drop, Option, Some, None, Result, Ok, Err, refl, sym, ap, ◌∙◌, subst, arith}
use Rattle.std.specs.Int.{Width, w8, w16, w32, w64, byte_len, from_be_bytes}
use Rattle.std.proofs.lemmas.Bool.{lt-ltb, le-ltb}
use Rattle.wire_words.specs.Tree.{WireNumber, WireValue}
use Rattle.tars_wire.specs.declared.wire_type.WireType.{WireType}
use Rattle.tars_wire.specs.declared.wire_fault.WireWhy.{WireWhy}
use Rattle.tars_wire.specs.declared.stop.Stop.{Stop}
use Rattle.tars_wire.specs.Heads.{code_of, Head, short, long}
use Rattle.tars_wire.specs.Spelled.{Bytes, no_bytes, byte, signed, Number, is_zero_tag, is_int1, is_int2, is_int4, is_int8, IsSize, Size, Contents, is_whole, is_float, is_double, is_string1, is_string4, is_simple_list, is_list, is_map, is_struct, ALL}
use Rattle.tars_wire.specs.MachineSteps.{contents, Inside, parts, tag_of, part_step, tag_step, tag_fault, head_context, after}
use Rattle.tars_wire.specs.ScanSteps.{stops_at, reading, contents_at}
use Rattle.tars_wire.specs.Left.{value_of_number, text_in, simple_in}
use Rattle.facts.specs.OptionSteps.{◌>>=◌}
use Rattle.tars_wire.specs.PrefixSteps.{typed_prefix, head_prefix, bytes_prefix, unsigned_prefix, signed_prefix, number_prefix, size_prefix, text_prefix, simple_prefix}
use Rattle.longest_prefix.specs.Machine.{Goes}
use Rattle.tars_wire.proofs.Grammar.Heads.{type_of-code_of, code_below}
use Rattle.tars_wire.proofs.Machine.Meaning.{Insides}
use Rattle.tars_wire.proofs.Machine.Steps.{Inner, part_there, part_ends, unless_there}
use Rattle.tars_wire.proofs.Machine.Counts.{positive}
use Rattle.tars_wire.proofs.Machine.Forms.{contents_there}
use Rattle.facts.proofs.ResultLaws.{bind_ok}
use Rattle.tars_wire.proofs.Scanning.Readings.{reading_contents}
use Rattle.tars_wire.proofs.TestLemmas.{ltb_suc, halves}

prefix_of : (b high : ℕ) (type : WireType) (rest : List ℕ) → b ≡ 16 * high + code_of type → head_prefix (b ∷ rest) ≡ typed_prefix (Some type) high rest
unfolding head_prefix
prefix_of b high type rest e =
    let h = halves b high (code_of type) e (code_below type) in
    rw (h.0, h.1, type_of-code_of type) refl

pub head_prefix_is : {tag : ℕ} {type : WireType} {w rest : List ℕ} → Head tag type w rest → head_prefix w ≡ Some (record { tag = tag; kind = type }, rest)
head_prefix_is {tag} {type} {w} {rest} (short {byte = b} e below) = prefix_of b tag type rest e ∙ rw (lt-ltb tag 15 below) refl
head_prefix_is {tag} {type} {w} {rest} (long {byte = b} e below) =
    prefix_of b 15 type (tag ∷ rest) (let e' : b ≡ 16 * 15 + code_of type = omega arith in e')

abbrev prefix_if : Bool → List ℕ → List ℕ → Option (List ℕ × List ℕ)
prefix_if t prefix rest = cond t None (Some (prefix, rest))

one_prefix : (n b : ℕ) (w bytes rest : List ℕ) → bytes_prefix n w ≡ Some (bytes, rest) → bytes_prefix (suc n) (b ∷ w) ≡ Some (b ∷ bytes, rest)
unfolding bytes_prefix
one_prefix n b w bytes rest e = rw (ltb_suc (length w) n) (go (ltb (length w) n) e)
  where
    longer : Option (List ℕ × List ℕ) → Option (List ℕ × List ℕ)
    longer o = o >>= λ x. Some (b ∷ x.0, x.1)

    go : (t : Bool) → prefix_if t (take n w) (drop n w) ≡ Some (bytes, rest) → prefix_if t (b ∷ take n w) (drop n w) ≡ Some (b ∷ bytes, rest)
    go true e = ap longer e
    go false e = ap longer e

none_prefix : (w : List ℕ) → bytes_prefix 0 w ≡ Some ([], w)
unfolding bytes_prefix
none_prefix w = rw (le-ltb (length w) 0 (omega arith)) refl

pub bytes_prefix_is : {bytes w rest : List ℕ} → Bytes bytes w rest → bytes_prefix (length bytes) w ≡ Some (bytes, rest)
bytes_prefix_is {rest = rest} no_bytes = none_prefix rest
bytes_prefix_is {rest = rest} (byte {b = b} {bytes = bytes} {input = w} fits more) = one_prefix (length bytes) b w bytes rest (bytes_prefix_is more)

prefix_by : {bytes w rest : List ℕ} (n : ℕ) → Bytes bytes w rest → length bytes ≡ n → bytes_prefix n w ≡ Some (bytes, rest)
prefix_by {bytes} {w} {rest} n bs e = subst (λ (k : ℕ). bytes_prefix k w ≡ Some (bytes, rest)) e (bytes_prefix_is bs)

signed_prefix_is : {bytes w rest : List ℕ} (width : Width) → Bytes bytes w rest → length bytes ≡ byte_len width → signed_prefix width w ≡ Some (signed width bytes, rest)
unfolding signed_prefix
signed_prefix_is {bytes} {w} {rest} width bs e = rw (prefix_by (byte_len width) bs e) refl

unsigned_prefix_is : {bytes w rest : List ℕ} (width : Width) → Bytes bytes w rest → length bytes ≡ byte_len width → unsigned_prefix width w ≡ Some (from_be_bytes width bytes, rest)
unfolding unsigned_prefix
unsigned_prefix_is {bytes} {w} {rest} width bs e = rw (prefix_by (byte_len width) bs e) refl

pub number_prefix_is : {type : WireType} {number : WireNumber} {w rest : List ℕ} → Number type number w rest → number_prefix type w ≡ Some (value_of_number number, rest)
unfolding number_prefix
number_prefix_is is_zero_tag = refl
number_prefix_is (is_int1 bytes e) = signed_prefix_is w8 bytes e
number_prefix_is (is_int2 bytes e) = signed_prefix_is w16 bytes e
number_prefix_is (is_int4 bytes e) = signed_prefix_is w32 bytes e
number_prefix_is (is_int8 bytes e) = signed_prefix_is w64 bytes e

-- a size is below 2 ^ 31
size_below : {type : WireType} {number : WireNumber} {w rest : List ℕ} (n : ℕ) → Number type number w rest → IsSize number n → (value_of_number number ≡ pos n) × (n < 2 ^ 31)
size_below n is_zero_tag e = (ap pos (sym e), omega arith)
size_below n (is_int1 {bytes = bytes} bs f) e = let p = positive w8 (from_be_bytes w8 bytes) n e in (e, omega arith)
size_below n (is_int2 {bytes = bytes} bs f) e = let p = positive w16 (from_be_bytes w16 bytes) n e in (e, omega arith)
size_below n (is_int4 {bytes = bytes} bs f) e = let p = positive w32 (from_be_bytes w32 bytes) n e in (e, omega arith)
size_below n (is_int8 bs f) e = absurd e

pub size_prefix_is : {n : ℕ} {w rest : List ℕ} → Size n w rest → size_prefix w ≡ Some (n, rest)
unfolding size_prefix
size_prefix_is {n} {w} {rest} s =
    let b = size_below n s.contents s.size in
    rw (head_prefix_is s.head, number_prefix_is s.contents, b.0, lt-ltb n (2 ^ 31) b.1) refl

none_some : (text : List ℕ) → None ≡ Some text → ⊥
none_some text e = cc

pub text_prefix_is : {room : ℕ} {type : WireType} {v : WireValue} {w rest : List ℕ} (text : List ℕ) → Contents room type v w rest → text_in v ≡ Some text → text_prefix type w ≡ Some (text, rest)
unfolding text_prefix
text_prefix_is text (is_string1 {size = size} {bytes = bytes} {input = w} {rest = rest} fits bs f) e =
    let first : unsigned_prefix w8 (size ∷ w) ≡ Some (size, w) = unsigned_prefix_is w8 (byte fits no_bytes) refl in
    rw (first, prefix_by size bs f) (ap (λ t. t >>= λ b. Some (b, rest)) e)
text_prefix_is text (is_string4 {size = size} {bytes = bytes} {following = following} {rest = rest} s g bs f) e =
    rw (unsigned_prefix_is w32 s g, prefix_by (from_be_bytes w32 size) bs f) (ap (λ t. t >>= λ b. Some (b, rest)) e)
text_prefix_is text (is_whole n) e = absurd (none_some text e)
text_prefix_is text (is_float bs f) e = absurd (none_some text e)
text_prefix_is text (is_double bs f) e = absurd (none_some text e)
text_prefix_is text (is_simple_list h s bs f) e = absurd (none_some text e)
text_prefix_is text (is_list d s v) e = absurd (none_some text e)
text_prefix_is text (is_map d s v) e = absurd (none_some text e)
text_prefix_is text (is_struct d s v) e = absurd (none_some text e)

pub simple_prefix_is : {room : ℕ} {type : WireType} {v : WireValue} {w rest : List ℕ} (text : List ℕ) → Contents room type v w rest → simple_in v ≡ Some text → simple_prefix w ≡ Some (text, rest)
unfolding simple_prefix
simple_prefix_is text (is_simple_list {n = n} {bytes = bytes} {rest = rest} h s bs f) e =
    rw (head_prefix_is h, size_prefix_is s, prefix_by n bs f) (ap (λ t. t >>= λ b. Some (b, rest)) e)
simple_prefix_is text (is_string1 fits bs f) e = absurd (none_some text e)
simple_prefix_is text (is_string4 s g bs f) e = absurd (none_some text e)
simple_prefix_is text (is_whole n) e = absurd (none_some text e)
simple_prefix_is text (is_float bs f) e = absurd (none_some text e)
simple_prefix_is text (is_double bs f) e = absurd (none_some text e)
simple_prefix_is text (is_list d s v) e = absurd (none_some text e)
simple_prefix_is text (is_map d s v) e = absurd (none_some text e)
simple_prefix_is text (is_struct d s v) e = absurd (none_some text e)

-- what is awaited and there is read
pub record IsRead (inside : Inside) (w : List ℕ) (After : List ℕ → Type 0) : Type 0 where
  pub rest : List ℕ
  pub is : reading inside w ≡ Ok rest
  pub after : After rest

abbrev ReadsTo : Result (List ℕ) Stop → (List ℕ → Type 0) → Type 0
ReadsTo r After = (rest : List ℕ) × (r ≡ Ok rest) × After rest

step_read : (b : ℕ) (w : List ℕ) (After : List ℕ → Type 0) (r : Result Inside WireWhy) → Goes (Inner ALL After) r w → ((to : Inside) → Insides ALL to w After → IsRead to w After)
    → ReadsTo (elim r [ Ok to ↦ reading to w | Err fault ↦ Err (stops_at (b ∷ w) fault) ]) After
step_read b w After (Ok to) x rec = let t = rec to x in (t.rest, t.is, t.after)
step_read b w After (Err fault) x rec = absurd x

pub reading_complete : (inside : Inside) (w : List ℕ) (After : List ℕ → Type 0) → Insides ALL inside w After → IsRead inside w After
reading_complete (parts []) w After x = record { rest = w; is = refl; after = x }
reading_complete (parts (part ∷ below)) [] After x = absurd (part_ends ALL part After below x)
reading_complete (parts (part ∷ below)) (b ∷ w) After x =
    let t = step_read b w After (part_step ALL part below b) (part_there ALL part below b w After x) (λ to y. reading_complete to w After y) in
    record { rest = t.0; is = t.1; after = t.2 }
reading_complete (tag_of context type below) [] After x = absurd x
reading_complete (tag_of context type below) (tag ∷ w) After x =
    let t = step_read tag w After (tag_step ALL context type below tag) (unless_there (Inner ALL After) (tag_fault ALL (head_context context) type tag) (parts (after context tag type below)) w x.1 x.2) (λ to y. reading_complete to w After y) in
    record { rest = t.0; is = t.1; after = t.2 }

pub contents_complete : {room : ℕ} {type : WireType} {v : WireValue} {w rest : List ℕ} → Contents room type v w rest → contents_at room type w ≡ Ok rest
contents_complete {room} {type} {v} {w} {rest} d =
    let t = reading_complete (parts (contents room type [])) w (λ u. u ≡ rest) (contents_there ALL d [] (λ u. u ≡ rest) refl) in
    sym (reading_contents room type [] w ∙ bind_ok (contents_at room type w)) ∙ (t.is ∙ ap (λ u. Ok u) t.after)
