-- What reading from left to right gives is what the steps give.
use Rattle.std.proofs.Common.{◌≡◌, ℕ, zero, suc, ◌+◌, ◌-◌, ◌*◌, Bool, true, false, cond, ltb, List, [], ◌∷◌, ◌++◌, length, Option, Some, None, Result, Ok, Err, refl, sym, ap, ◌∙◌, arith, take, drop}
use Rattle.std.specs.Int.{Width, w8, w16, w32}
use Rattle.std.proofs.lemmas.Bool.{lt-ltb, le-ltb}
use Rattle.tars_wire.specs.declared.wire_type.WireType.{WireType}
use Rattle.tars_wire.specs.declared.wire_type.WireType.TheVariants as wire
use Rattle.tars_wire.specs.declared.wire_fault.WireWhy.{WireWhy}
use Rattle.tars_wire.specs.declared.wire_fault.WireWhy.TheVariants as why
use Rattle.tars_wire.specs.declared.stop.Stop.{Stop}
use Rattle.tars_wire.specs.declared.head_context.HeadContext.TheVariants as heads
use Rattle.tars_wire.specs.declared.head.FirstByte.{FirstByte}
use Rattle.tars_wire.specs.declared.head.FirstByte.TheVariants as first
use Rattle.tars_wire.specs.Heads.{is_end}
use Rattle.tars_wire.specs.Spelled.{ALL}
use Rattle.tars_wire.specs.MachineSteps.{tag_fault, unless, first_byte, Kind, of_bytes, of_values, of_pairs, Context, in_struct, an_element, a_key, its_value, a_size, simple_head, head_context, Part, raw, size_first, size_later, head_of, counted, contents, size_bytes, after, Inside, parts, tag_of, head_step, part_step, tag_step}
use Rattle.tars_wire.specs.PrefixSteps.{bytes_prefix, unsigned_prefix}
use Rattle.facts.specs.ResultSteps.{◌>>=◌}
use Rattle.facts.proofs.ResultLaws.{bind_assoc, bind_same}
use Rattle.tars_wire.specs.ScanSteps.{or_short, too_short, stops_at, judged_tag, tag_at, headed, head_at, past, unsigned_at, not_negative, size_number, size_at, reading, counted_at, fields_at, text_at, simple_list_at, sized_at, contents_at, item_at, pair_at}
use Rattle.tars_wire.proofs.TestLemmas.{ltb_suc}

-- the first byte of a head, then its tag
head_goes : (context : Context) (below : List Part) (byte : ℕ) (rest : List ℕ) (r : Result FirstByte WireWhy)
    → elim (head_step context below r) [ Ok to ↦ reading to rest | Err fault ↦ Err (stops_at (byte ∷ rest) fault) ]
    ≡ headed (head_context context) r byte rest >>= (λ h. reading (parts (after context h.0.tag h.0.kind below)) h.1)
unfolding tag_at
head_goes context below byte rest (Ok (first.Whole head)) = refl
head_goes context below byte [] (Ok (first.Long type)) = refl
head_goes context below byte (tag ∷ rest) (Ok (first.Long type)) = go (tag_fault ALL (head_context context) type tag)
  where
    go : (f : Option WireWhy) → elim (unless f (parts (after context tag type below))) [ Ok to ↦ reading to rest | Err fault ↦ Err (stops_at (tag ∷ rest) fault) ]
        ≡ judged_tag f type tag rest >>= (λ h. reading (parts (after context h.0.tag h.0.kind below)) h.1)
    go None = refl
    go (Some fault) = refl
head_goes context below byte rest (Err fault) = refl

pub reading_head : (context : Context) (below : List Part) (w : List ℕ) → reading (parts (head_of context ∷ below)) w ≡ head_at (head_context context) w >>= (λ h. reading (parts (after context h.0.tag h.0.kind below)) h.1)
unfolding head_at
reading_head context below [] = refl
reading_head context below (byte ∷ rest) = head_goes context below byte rest (first_byte ALL (head_context context) byte)

past_zero : (w : List ℕ) → past 0 w ≡ Ok w
unfolding past bytes_prefix
past_zero w = rw (le-ltb (length w) 0 (omega arith)) refl

past_more : (n b : ℕ) (w : List ℕ) → past (suc n) (b ∷ w) ≡ past n w
unfolding past bytes_prefix
past_more n b w = rw (ltb_suc (length w) n) (go (ltb (length w) n))
  where
    go : (t : Bool) → or_short (λ (x : List ℕ × List ℕ). x.1) (cond t None (Some (b ∷ take n w, drop n w))) ≡ or_short (λ (x : List ℕ × List ℕ). x.1) (cond t None (Some (take n w, drop n w)))
    go true = refl
    go false = refl

past_short : (n : ℕ) → past (suc n) [] ≡ Err too_short
unfolding past bytes_prefix
past_short n = rw (lt-ltb 0 (suc n) (omega arith)) refl

pub reading_raw : (n : ℕ) (below : List Part) (w : List ℕ) → reading (parts (raw n ∷ below)) w ≡ past (suc n) w >>= (λ v. reading (parts below) v)
reading_raw n below [] = rw (past_short n) refl
reading_raw zero below (b ∷ w) = rw (past_more 0 b w, past_zero w) refl
reading_raw (suc n) below (b ∷ w) = rw (past_more (suc n) b w) (reading_raw n below w)

pub reading_bytes : (n : ℕ) (below : List Part) (w : List ℕ) → reading (parts (counted of_bytes n below)) w ≡ past n w >>= (λ v. reading (parts below) v)
reading_bytes zero below w = rw (past_zero w) refl
reading_bytes (suc n) below w = reading_raw n below w

-- numbers, byte after byte
abbrev later_at : ℕ → ℕ → List ℕ → Result (ℕ × List ℕ) Stop
later_at zero so_far w = Ok (so_far, w)
later_at (suc more) so_far [] = Err too_short
later_at (suc more) so_far (b ∷ w) = later_at more (so_far * 256 + b) w

abbrev first_at : ℕ → List ℕ → Result (ℕ × List ℕ) Stop
first_at more [] = Err too_short
first_at more (b ∷ w) = later_at more b w

reading_later : (kind : Kind) (more so_far : ℕ) (below : List Part) (w : List ℕ) → reading (parts (size_later kind more so_far ∷ below)) w ≡ later_at (suc more) so_far w >>= (λ x. reading (parts (counted kind x.0 below)) x.1)
reading_later kind more so_far below [] = refl
reading_later kind zero so_far below (b ∷ w) = refl
reading_later kind (suc more) so_far below (b ∷ w) = reading_later kind more (so_far * 256 + b) below w

reading_first : (kind : Kind) (more : ℕ) (below : List Part) (w : List ℕ) → reading (parts (size_first kind more ∷ below)) w ≡ (not_negative w >>= first_at more) >>= (λ x. reading (parts (counted kind x.0 below)) x.1)
unfolding not_negative
reading_first kind more below [] = refl
reading_first kind zero below (b ∷ w) = go (ltb b 128)
  where
    go : (t : Bool) → elim (cond t (Ok (parts (counted kind b below))) (Err why.BadSize)) [ Ok to ↦ reading to w | Err fault ↦ Err (stops_at (b ∷ w) fault) ]
        ≡ (cond t (Ok (b ∷ w)) (Err (stops_at (b ∷ w) why.BadSize)) >>= first_at 0) >>= (λ x. reading (parts (counted kind x.0 below)) x.1)
    go true = refl
    go false = refl
reading_first kind (suc more) below (b ∷ w) = go (ltb b 128)
  where
    go : (t : Bool) → elim (cond t (Ok (parts (size_later kind more b ∷ below))) (Err why.BadSize)) [ Ok to ↦ reading to w | Err fault ↦ Err (stops_at (b ∷ w) fault) ]
        ≡ (cond t (Ok (b ∷ w)) (Err (stops_at (b ∷ w) why.BadSize)) >>= first_at (suc more)) >>= (λ x. reading (parts (counted kind x.0 below)) x.1)
    go true = reading_later kind more b below w
    go false = refl

ok_pair : (m n : ℕ) (w : List ℕ) → m ≡ n → (let r : Result (ℕ × List ℕ) Stop = Ok (m, w) in r) ≡ Ok (n, w)
ok_pair m n w e = ap (λ k. Ok (k, w)) e

first_byte_number : (w : List ℕ) → first_at 0 w ≡ unsigned_at w8 w
unfolding unsigned_at unsigned_prefix bytes_prefix
first_byte_number [] = refl
first_byte_number (b ∷ w) = rw (le-ltb (suc (length w)) 1 (omega arith)) refl

first_two : (w : List ℕ) → first_at 1 w ≡ unsigned_at w16 w
unfolding unsigned_at unsigned_prefix bytes_prefix
first_two [] = refl
first_two (b ∷ []) = refl
first_two (b ∷ c ∷ w) = rw (le-ltb (suc (suc (length w))) 2 (omega arith)) (ok_pair _ _ w (omega arith))

first_four : (w : List ℕ) → first_at 3 w ≡ unsigned_at w32 w
unfolding unsigned_at unsigned_prefix bytes_prefix
first_four [] = refl
first_four (b ∷ []) = refl
first_four (b ∷ c ∷ []) = refl
first_four (b ∷ c ∷ d ∷ []) = refl
first_four (b ∷ c ∷ d ∷ f ∷ w) = rw (le-ltb (suc (suc (suc (suc (length w))))) 4 (omega arith)) (ok_pair _ _ w (omega arith))

-- from nothing, a number begins with its first byte
from_nothing : (more : ℕ) (w : List ℕ) → later_at (suc more) 0 w ≡ first_at more w
from_nothing more [] = refl
from_nothing more (b ∷ w) = ap (λ k. later_at more k w) (let e : 0 * 256 + b ≡ b = omega arith in e)

reading_size_number : (kind : Kind) (type : WireType) (below : List Part) (w : List ℕ) → reading (parts (size_bytes kind type below)) w ≡ size_number type w >>= (λ x. reading (parts (counted kind x.0 below)) x.1)
unfolding size_number
reading_size_number kind wire.Int1 below w = reading_first kind 0 below w ∙ ap (λ r. r >>= (λ x. reading (parts (counted kind x.0 below)) x.1)) (bind_same (not_negative w) (first_at 0) (unsigned_at w8) first_byte_number)
reading_size_number kind wire.Int2 below w = reading_first kind 1 below w ∙ ap (λ r. r >>= (λ x. reading (parts (counted kind x.0 below)) x.1)) (bind_same (not_negative w) (first_at 1) (unsigned_at w16) first_two)
reading_size_number kind wire.Int4 below w = reading_first kind 3 below w ∙ ap (λ r. r >>= (λ x. reading (parts (counted kind x.0 below)) x.1)) (bind_same (not_negative w) (first_at 3) (unsigned_at w32) first_four)
reading_size_number kind wire.Int8 below w = refl
reading_size_number kind wire.Float below w = refl
reading_size_number kind wire.Double below w = refl
reading_size_number kind wire.String1 below w = refl
reading_size_number kind wire.String4 below w = refl
reading_size_number kind wire.Map below w = refl
reading_size_number kind wire.List below w = refl
reading_size_number kind wire.StructBegin below w = refl
reading_size_number kind wire.StructEnd below w = refl
reading_size_number kind wire.ZeroTag below w = refl
reading_size_number kind wire.SimpleList below w = refl

pub reading_size : (kind : Kind) (below : List Part) (w : List ℕ) → reading (parts (head_of (a_size kind) ∷ below)) w ≡ size_at w >>= (λ x. reading (parts (counted kind x.0 below)) x.1)
unfolding size_at
reading_size kind below w =
    reading_head (a_size kind) below w
    ∙ (bind_same (head_at heads.Size w) (λ h. reading (parts (size_bytes kind h.0.kind below)) h.1) (λ h. size_number h.0.kind h.1 >>= (λ x. reading (parts (counted kind x.0 below)) x.1)) (λ h. reading_size_number kind h.0.kind below h.1)
    ∙ sym (bind_assoc (head_at heads.Size w) (λ h. size_number h.0.kind h.1) (λ x. reading (parts (counted kind x.0 below)) x.1)))

-- what is awaited after it
abbrev push : Inside → List Part → Inside
push (parts below) more = parts (below ++ more)
push (tag_of context type below) more = tag_of context type (below ++ more)

abbrev pushed : Result Inside WireWhy → List Part → Result Inside WireWhy
pushed (Ok to) more = Ok (push to more)
pushed (Err fault) more = Err fault

pub counted_push : (kind : Kind) (n : ℕ) (below more : List Part) → counted kind n (below ++ more) ≡ counted kind n below ++ more
counted_push of_bytes zero below more = refl
counted_push of_bytes (suc n) below more = refl
counted_push (of_values room) zero below more = refl
counted_push (of_values room) (suc n) below more = refl
counted_push (of_pairs room) zero below more = refl
counted_push (of_pairs room) (suc n) below more = refl

contents_push : (room : ℕ) (type : WireType) (below more : List Part) → contents room type (below ++ more) ≡ contents room type below ++ more
contents_push room wire.Int1 below more = refl
contents_push room wire.Int2 below more = refl
contents_push room wire.Int4 below more = refl
contents_push room wire.Int8 below more = refl
contents_push room wire.Float below more = refl
contents_push room wire.Double below more = refl
contents_push room wire.String1 below more = refl
contents_push room wire.String4 below more = refl
contents_push room wire.Map below more = refl
contents_push room wire.List below more = refl
contents_push room wire.StructBegin below more = refl
contents_push room wire.StructEnd below more = refl
contents_push room wire.ZeroTag below more = refl
contents_push room wire.SimpleList below more = refl

size_push : (kind : Kind) (type : WireType) (below more : List Part) → size_bytes kind type (below ++ more) ≡ size_bytes kind type below ++ more
size_push kind wire.Int1 below more = refl
size_push kind wire.Int2 below more = refl
size_push kind wire.Int4 below more = refl
size_push kind wire.Int8 below more = counted_push kind 0 below more
size_push kind wire.Float below more = counted_push kind 0 below more
size_push kind wire.Double below more = counted_push kind 0 below more
size_push kind wire.String1 below more = counted_push kind 0 below more
size_push kind wire.String4 below more = counted_push kind 0 below more
size_push kind wire.Map below more = counted_push kind 0 below more
size_push kind wire.List below more = counted_push kind 0 below more
size_push kind wire.StructBegin below more = counted_push kind 0 below more
size_push kind wire.StructEnd below more = counted_push kind 0 below more
size_push kind wire.ZeroTag below more = counted_push kind 0 below more
size_push kind wire.SimpleList below more = counted_push kind 0 below more

cond_push : (b : Bool) (xs ys xs' ys' more : List Part) → xs' ≡ xs ++ more → ys' ≡ ys ++ more → cond b xs' ys' ≡ cond b xs ys ++ more
cond_push true xs ys xs' ys' more e f = e
cond_push false xs ys xs' ys' more e f = f

after_push : (context : Context) (tag : ℕ) (type : WireType) (below more : List Part) → after context tag type (below ++ more) ≡ after context tag type below ++ more
after_push (in_struct from room) tag type below more =
    cond_push (is_end type) below (contents room type (head_of (in_struct (tag + 1) room) ∷ below)) (below ++ more) (contents room type (head_of (in_struct (tag + 1) room) ∷ (below ++ more))) more refl (contents_push room type (head_of (in_struct (tag + 1) room) ∷ below) more)
after_push (an_element n room) tag type below more = ap (contents room type) (counted_push (of_values room) n below more) ∙ contents_push room type (counted (of_values room) n below) more
after_push (a_key n room) tag type below more = contents_push room type (head_of (its_value n room) ∷ below) more
after_push (its_value n room) tag type below more = ap (contents room type) (counted_push (of_pairs room) n below more) ∙ contents_push room type (counted (of_pairs room) n below) more
after_push (a_size kind) tag type below more = size_push kind type below more
after_push simple_head tag type below more = refl

head_push : (context : Context) (below more : List Part) (r : Result FirstByte WireWhy) → head_step context (below ++ more) r ≡ pushed (head_step context below r) more
head_push context below more (Ok (first.Whole head)) = ap (λ ps. Ok (parts ps)) (after_push context head.tag head.kind below more)
head_push context below more (Ok (first.Long type)) = refl
head_push context below more (Err fault) = refl

cond_pushed : (b : Bool) (i j : Inside) (fault : WireWhy) (more : List Part) → j ≡ push i more → cond b (Ok j) (Err fault) ≡ pushed (cond b (Ok i) (Err fault)) more
cond_pushed true i j fault more e = ap (λ k. Ok k) e
cond_pushed false i j fault more e = refl

part_push : (part : Part) (below more : List Part) (byte : ℕ) → part_step ALL part (below ++ more) byte ≡ pushed (part_step ALL part below byte) more
part_push (raw zero) below more byte = refl
part_push (raw (suc n)) below more byte = refl
part_push (size_first kind zero) below more byte = cond_pushed (ltb byte 128) (parts (counted kind byte below)) (parts (counted kind byte (below ++ more))) why.BadSize more (ap parts (counted_push kind byte below more))
part_push (size_first kind (suc n)) below more byte = cond_pushed (ltb byte 128) (parts (size_later kind n byte ∷ below)) (parts (size_later kind n byte ∷ (below ++ more))) why.BadSize more refl
part_push (size_later kind zero so_far) below more byte = ap (λ ps. Ok (parts ps)) (counted_push kind (so_far * 256 + byte) below more)
part_push (size_later kind (suc n) so_far) below more byte = refl
part_push (head_of context) below more byte = head_push context below more (first_byte ALL (head_context context) byte)

unless_push : (fault : Option WireWhy) (i j : Inside) (more : List Part) → j ≡ push i more → unless fault j ≡ pushed (unless fault i) more
unless_push None i j more e = ap (λ k. Ok k) e
unless_push (Some fault) i j more e = refl

one_push : (more : List Part) (byte : ℕ) (rest : List ℕ) (r r' : Result Inside WireWhy) → r' ≡ pushed r more
    → ((to : Inside) → reading (push to more) rest ≡ reading to rest >>= (λ v. reading (parts more) v))
    → elim r' [ Ok to ↦ reading to rest | Err fault ↦ Err (stops_at (byte ∷ rest) fault) ]
    ≡ elim r [ Ok to ↦ reading to rest | Err fault ↦ Err (stops_at (byte ∷ rest) fault) ] >>= (λ v. reading (parts more) v)
one_push more byte rest r r' e rec =
    ap (λ q. elim q [ Ok to ↦ reading to rest | Err fault ↦ Err (stops_at (byte ∷ rest) fault) ]) e ∙ go r
  where
    go : (r : Result Inside WireWhy) → elim (pushed r more) [ Ok to ↦ reading to rest | Err fault ↦ Err (stops_at (byte ∷ rest) fault) ]
        ≡ elim r [ Ok to ↦ reading to rest | Err fault ↦ Err (stops_at (byte ∷ rest) fault) ] >>= (λ v. reading (parts more) v)
    go (Ok to) = rec to
    go (Err fault) = refl

-- first what is awaited, then what comes after it
pub reading_push : (inside : Inside) (more : List Part) (w : List ℕ) → reading (push inside more) w ≡ reading inside w >>= (λ v. reading (parts more) v)
reading_push (parts []) more w = refl
reading_push (parts (part ∷ below)) more [] = refl
reading_push (parts (part ∷ below)) more (byte ∷ rest) =
    one_push more byte rest (part_step ALL part below byte) (part_step ALL part (below ++ more) byte) (part_push part below more byte) (λ to. reading_push to more rest)
reading_push (tag_of context type below) more [] = refl
reading_push (tag_of context type below) more (tag ∷ rest) =
    one_push more tag rest (tag_step ALL context type below tag) (tag_step ALL context type (below ++ more) tag) (unless_push (tag_fault ALL (head_context context) type tag) (parts (after context tag type below)) (parts (after context tag type (below ++ more))) more (ap parts (after_push context tag type below more))) (λ to. reading_push to more rest)

pub reading_counted : (kind : Kind) (n : ℕ) (below : List Part) (w : List ℕ) → reading (parts (counted kind n below)) w ≡ counted_at kind n w >>= (λ v. reading (parts below) v)
unfolding counted_at
reading_counted kind n below w = ap (λ ps. reading (parts ps) w) (counted_push kind n [] below) ∙ reading_push (parts (counted kind n [])) below w

pub reading_fields : (from room : ℕ) (below : List Part) (w : List ℕ) → reading (parts (head_of (in_struct from room) ∷ below)) w ≡ fields_at from room w >>= (λ v. reading (parts below) v)
unfolding fields_at
reading_fields from room below w = reading_push (parts (head_of (in_struct from room) ∷ [])) below w

reading_sized : (kind : Kind) (below : List Part) (w : List ℕ) → reading (parts (head_of (a_size kind) ∷ below)) w ≡ sized_at kind w >>= (λ v. reading (parts below) v)
unfolding sized_at
reading_sized kind below w =
    reading_size kind below w
    ∙ (bind_same (size_at w) (λ x. reading (parts (counted kind x.0 below)) x.1) (λ x. counted_at kind x.0 x.1 >>= (λ v. reading (parts below) v)) (λ x. reading_counted kind x.0 below x.1)
    ∙ sym (bind_assoc (size_at w) (λ x. counted_at kind x.0 x.1) (λ v. reading (parts below) v)))

-- a number of bytes, and these
sized_bytes : (r : Result (ℕ × List ℕ) Stop) (below : List Part) → r >>= (λ x. reading (parts (counted of_bytes x.0 below)) x.1) ≡ (r >>= (λ x. past x.0 x.1)) >>= (λ v. reading (parts below) v)
sized_bytes (Ok x) below = reading_bytes x.0 below x.1
sized_bytes (Err stop) below = refl

reading_text : (width : Width) (more : ℕ) (below : List Part) (w : List ℕ) → first_at more w ≡ unsigned_at width w → reading (parts (size_later of_bytes more 0 ∷ below)) w ≡ text_at width w >>= (λ v. reading (parts below) v)
unfolding text_at
reading_text width more below w e =
    reading_later of_bytes more 0 below w
    ∙ (ap (λ r. r >>= (λ x. reading (parts (counted of_bytes x.0 below)) x.1)) (from_nothing more w ∙ e)
    ∙ sized_bytes (unsigned_at width w) below)

reading_simple : (below : List Part) (w : List ℕ) → reading (parts (head_of simple_head ∷ below)) w ≡ simple_list_at w >>= (λ v. reading (parts below) v)
unfolding simple_list_at
reading_simple below w =
    reading_head simple_head below w
    ∙ (bind_same (head_at heads.Simple w) (λ h. reading (parts (head_of (a_size of_bytes) ∷ below)) h.1) (λ h. (size_at h.1 >>= (λ x. past x.0 x.1)) >>= (λ v. reading (parts below) v)) (λ h. reading_size of_bytes below h.1 ∙ sized_bytes (size_at h.1) below)
    ∙ sym (bind_assoc (head_at heads.Simple w) (λ h. size_at h.1 >>= (λ x. past x.0 x.1)) (λ v. reading (parts below) v)))

pub reading_contents : (room : ℕ) (type : WireType) (below : List Part) (w : List ℕ) → reading (parts (contents room type below)) w ≡ contents_at room type w >>= (λ v. reading (parts below) v)
unfolding contents_at
reading_contents room wire.Int1 below w = reading_raw 0 below w
reading_contents room wire.Int2 below w = reading_raw 1 below w
reading_contents room wire.Int4 below w = reading_raw 3 below w
reading_contents room wire.Int8 below w = reading_raw 7 below w
reading_contents room wire.Float below w = reading_raw 3 below w
reading_contents room wire.Double below w = reading_raw 7 below w
reading_contents room wire.String1 below w = reading_text w8 0 below w (first_byte_number w)
reading_contents room wire.String4 below w = reading_text w32 3 below w (first_four w)
reading_contents room wire.Map below w = reading_sized (of_pairs (room - 1)) below w
reading_contents room wire.List below w = reading_sized (of_values (room - 1)) below w
reading_contents room wire.StructBegin below w = reading_fields 0 (room - 1) below w
reading_contents room wire.StructEnd below w = refl
reading_contents room wire.ZeroTag below w = refl
reading_contents room wire.SimpleList below w = reading_simple below w

-- nothing is counted
pub no_values_left : (room : ℕ) (w : List ℕ) → counted_at (of_values room) 0 w ≡ Ok w
unfolding counted_at
no_values_left room w = refl

pub no_pairs_left : (room : ℕ) (w : List ℕ) → counted_at (of_pairs room) 0 w ≡ Ok w
unfolding counted_at
no_pairs_left room w = refl

-- one element, and the others
pub one_value_more : (room n : ℕ) (w : List ℕ) → counted_at (of_values room) (suc n) w ≡ item_at 0 room w >>= counted_at (of_values room) n
unfolding counted_at item_at
one_value_more room n w =
    reading_head (an_element n room) [] w
    ∙ (bind_same (head_at (heads.Item 0 room) w) (λ h. reading (parts (contents room h.0.kind (counted (of_values room) n []))) h.1) (λ h. contents_at room h.0.kind h.1 >>= counted_at (of_values room) n) (λ h. reading_contents room h.0.kind (counted (of_values room) n []) h.1)
    ∙ sym (bind_assoc (head_at (heads.Item 0 room) w) (λ h. contents_at room h.0.kind h.1) (counted_at (of_values room) n)))

value_after : (room n : ℕ) (w : List ℕ) → reading (parts (head_of (its_value n room) ∷ [])) w ≡ item_at 1 room w >>= counted_at (of_pairs room) n
unfolding counted_at item_at
value_after room n w =
    reading_head (its_value n room) [] w
    ∙ (bind_same (head_at (heads.Item 1 room) w) (λ h. reading (parts (contents room h.0.kind (counted (of_pairs room) n []))) h.1) (λ h. contents_at room h.0.kind h.1 >>= counted_at (of_pairs room) n) (λ h. reading_contents room h.0.kind (counted (of_pairs room) n []) h.1)
    ∙ sym (bind_assoc (head_at (heads.Item 1 room) w) (λ h. contents_at room h.0.kind h.1) (counted_at (of_pairs room) n)))

pub one_pair_more : (room n : ℕ) (w : List ℕ) → counted_at (of_pairs room) (suc n) w ≡ pair_at room w >>= counted_at (of_pairs room) n
unfolding counted_at pair_at item_at
one_pair_more room n w =
    reading_head (a_key n room) [] w
    ∙ (bind_same (head_at (heads.Item 0 room) w) (λ h. reading (parts (contents room h.0.kind (head_of (its_value n room) ∷ []))) h.1) (λ h. contents_at room h.0.kind h.1 >>= (λ v. item_at 1 room v >>= counted_at (of_pairs room) n)) (λ h. reading_contents room h.0.kind (head_of (its_value n room) ∷ []) h.1 ∙ bind_same (contents_at room h.0.kind h.1) (λ v. reading (parts (head_of (its_value n room) ∷ [])) v) (λ v. item_at 1 room v >>= counted_at (of_pairs room) n) (value_after room n))
    ∙ (sym (bind_assoc (head_at (heads.Item 0 room) w) (λ h. contents_at room h.0.kind h.1) (λ v. item_at 1 room v >>= counted_at (of_pairs room) n))
    ∙ sym (bind_assoc (item_at 0 room w) (item_at 1 room) (counted_at (of_pairs room) n))))

-- one field, and the others, or the end
pub one_field_more : (from room : ℕ) (w : List ℕ) → fields_at from room w ≡ head_at (heads.Struct from room) w >>= (λ h. cond (is_end h.0.kind) (Ok h.1) (contents_at room h.0.kind h.1 >>= fields_at (h.0.tag + 1) room))
unfolding fields_at
one_field_more from room w =
    reading_head (in_struct from room) [] w
    ∙ bind_same (head_at (heads.Struct from room) w) (λ h. reading (parts (cond (is_end h.0.kind) [] (contents room h.0.kind (head_of (in_struct (h.0.tag + 1) room) ∷ [])))) h.1) (λ h. cond (is_end h.0.kind) (Ok h.1) (contents_at room h.0.kind h.1 >>= fields_at (h.0.tag + 1) room))
    (λ h. go (is_end h.0.kind) h.0.tag h.0.kind h.1)
  where
    go : (ends : Bool) (tag : ℕ) (type : WireType) (v : List ℕ) → reading (parts (cond ends [] (contents room type (head_of (in_struct (tag + 1) room) ∷ [])))) v ≡ cond ends (Ok v) (contents_at room type v >>= fields_at (tag + 1) room)
    go true tag type v = refl
    go false tag type v = reading_contents room type (head_of (in_struct (tag + 1) room) ∷ []) v
