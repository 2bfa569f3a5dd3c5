-- The parts of a request's frame around its id and its timeout.
use Rattle.std.proofs.Common.{◌≡◌, ◌∙◌, ◌≤◌, ◌+◌, ◌-◌, ℕ, ℤ, List, [], ◌++◌, length, take, drop, refl, sym, ap, arith, length-append, vec_capacity}
use Rattle.std.specs.Global.{Vec}
use Rattle.std.specs.Int.{to_be_bytes, w32}
use Rattle.std.proofs.lemmas.List.{append_assoc, take_all}
use Rattle.std.proofs.Math.Seq.{drop-append_seam, take-append_seam}
use Rattle.wire_words.specs.Spelling.{head, two_complement, fits_bits, shortest, spelled_number, spelled}
use Rattle.tars_model.specs.Declarations.{nothing_declared}
use Rattle.tars_model.specs.declared.ty.Ty.{Ty, Byte, Short, Int, Text as TextTy, Vector}
use Rattle.tars_model.specs.declared.value.Value.{Value, Num, Text, Blob}
use Rattle.tars_codec.specs.Written.{wire_value, written}
use Rattle.tars_codec.proofs.CallerLemmas.{num_wire}
use Rattle.tars_frames.specs.Streams.{LENGTH_BYTES, framed}
use Rattle.rpc_packet.specs.FrameParts.{OPEN_BYTES, id_field, timeout_field, front_of, middle_of, tail_of, IsOpen, IsEmpty, IsRoomFor}
use Rattle.rpc_packet.specs.Packets.{request_members, request_values, request_frame}
use Rattle.rpc_packet.specs.Prepared.{GREATEST, with_both, said_by}
use Rattle.rpc_packet.specs.declared.request.Request.{Request}

-- ---- pieces of a list

module _ (long l a f b t z : List ℕ) (i j : ℕ) (is : long ≡ l ++ (a ++ (f ++ (b ++ (t ++ z))))) (four : length l ≡ LENGTH_BYTES)
    (five : length f ≡ OPEN_BYTES) (also_five : length t ≡ OPEN_BYTES) (at_i : i ≡ LENGTH_BYTES + length a) (at_j : j ≡ i + OPEN_BYTES + length b) where
  pub pieces_length : length long ≡ j + OPEN_BYTES + length z
  pieces_length = ap length is ∙ simp length-append (omega (arith, four, five, also_five, at_i, at_j))

  past : (n : ℕ) (before after : List ℕ) → long ≡ before ++ after → n ≡ length before → drop n long ≡ after
  past n before after e at = rw (e, at) (drop-append_seam before after)

  here : (n : ℕ) (piece after : List ℕ) → n ≡ length piece → take n (piece ++ after) ≡ piece
  here n piece after at = rw at (take-append_seam piece after)

  pub first_piece : take (i - LENGTH_BYTES) (drop LENGTH_BYTES long) ≡ a
  first_piece =
      ap (take (i - LENGTH_BYTES)) (past LENGTH_BYTES l (a ++ (f ++ (b ++ (t ++ z)))) is (sym four))
      ∙ here (i - LENGTH_BYTES) a (f ++ (b ++ (t ++ z))) (omega (arith, at_i))

  from_middle : long ≡ (l ++ (a ++ f)) ++ (b ++ (t ++ z))
  from_middle =
      is ∙ sym (append_assoc l (a ++ f) (b ++ (t ++ z)) ∙ ap (λ xs. l ++ xs) (append_assoc a f (b ++ (t ++ z))))

  pub second_piece : take (j - (i + OPEN_BYTES)) (drop (i + OPEN_BYTES) long) ≡ b
  second_piece =
      ap (take (j - (i + OPEN_BYTES))) (past (i + OPEN_BYTES) (l ++ (a ++ f)) (b ++ (t ++ z)) from_middle (simp length-append (omega (arith, four, five, at_i))))
      ∙ here (j - (i + OPEN_BYTES)) b (t ++ z) (omega (arith, at_j))

  from_last : long ≡ ((l ++ (a ++ f)) ++ (b ++ t)) ++ z
  from_last = from_middle ∙ sym (append_assoc (l ++ (a ++ f)) (b ++ t) z ∙ ap (λ xs. (l ++ (a ++ f)) ++ xs) (append_assoc b t z))

  pub last_piece : take (length long - (j + OPEN_BYTES)) (drop (j + OPEN_BYTES) long) ≡ z
  last_piece =
      ap (take (length long - (j + OPEN_BYTES))) (past (j + OPEN_BYTES) ((l ++ (a ++ f)) ++ (b ++ t)) z from_last (simp length-append (omega (arith, four, five, also_five, at_i, at_j))))
      ∙ take_all (length long - (j + OPEN_BYTES)) z (omega (arith, pieces_length))

-- ---- the body of a request

three : (a b c rest : List ℕ) → (a ++ (b ++ (c ++ []))) ++ rest ≡ a ++ (b ++ (c ++ rest))
three a b c rest =
    append_assoc a (b ++ (c ++ [])) rest
    ∙ ap (λ xs. a ++ xs) (append_assoc b (c ++ []) rest ∙ ap (λ xs. b ++ xs) (append_assoc c [] rest))

regroup : (a b c i d e f t z : List ℕ) → a ++ (b ++ (c ++ (i ++ (d ++ (e ++ (f ++ (t ++ z))))))) ≡ (a ++ (b ++ (c ++ []))) ++ (i ++ ((d ++ (e ++ (f ++ []))) ++ (t ++ z)))
regroup a b c i d e f t z =
    sym (three a b c (i ++ ((d ++ (e ++ (f ++ []))) ++ (t ++ z))) ∙ ap (λ xs. a ++ (b ++ (c ++ (i ++ xs)))) (three d e f (t ++ z)))

-- a value of a member
abbrev at : ℕ → Ty → Value → List ℕ
at tag t v = spelled tag (wire_value v nothing_declared t)

number_at : (tag : ℕ) (n : ℤ) → at tag Int (Num n) ≡ spelled_number tag (shortest n)
number_at tag n = ap (spelled tag) (num_wire (Num n) nothing_declared Int n refl)

body_splits : (r : Request)
    → written nothing_declared request_members (request_values r) ≡ front_of r ++ (id_field r.id ++ (middle_of r ++ (timeout_field r.timeout ++ tail_of r)))
unfolding written request_members front_of middle_of tail_of
body_splits r =
    regroup (at 1 Short (Num r.version)) (at 2 Byte (Num r.kind)) (at 3 Int (Num r.message)) (at 4 Int (Num r.id)) (at 5 TextTy (Text r.servant)) (at 6 TextTy (Text r.func))
    (at 7 (Vector Byte) (Blob r.body)) (at 8 Int (Num r.timeout)) (tail_of r)
    ∙ (ap (λ xs. front_of r ++ (xs ++ (middle_of r ++ (at 8 Int (Num r.timeout) ++ tail_of r)))) (number_at 4 r.id)
    ∙ ap (λ xs. front_of r ++ (id_field r.id ++ (middle_of r ++ (xs ++ tail_of r)))) (number_at 8 r.timeout))

pub frame_splits : (r : Request) → request_frame r ≡ framed (front_of r ++ (id_field r.id ++ (middle_of r ++ (timeout_field r.timeout ++ tail_of r))))
unfolding request_frame
frame_splits r = ap framed (body_splits r)

-- ---- a frame that is open

longest_id : length (id_field GREATEST) ≡ OPEN_BYTES
unfolding fits_bits head two_complement spelled_number shortest
longest_id = refl

longest_timeout : length (timeout_field GREATEST) ≡ OPEN_BYTES
unfolding fits_bits head two_complement spelled_number shortest
longest_timeout = refl

module _ (longest : List ℕ) (id_at timeout_at : ℕ) (is_open : IsOpen longest id_at timeout_at) where
  abbrev r : Request
  r = said_by longest

  abbrev body : List ℕ
  body = front_of r ++ (id_field GREATEST ++ (middle_of r ++ (timeout_field GREATEST ++ tail_of r)))

  abbrev first_four : List ℕ
  first_four = to_be_bytes w32 (length body + LENGTH_BYTES)

  pieces : longest ≡ first_four ++ body
  unfolding framed
  pieces =
      is_open.frame ∙ (frame_splits r
      ∙ ap (λ n. framed (front_of r ++ (id_field n ++ (middle_of r ++ (timeout_field r.timeout ++ tail_of r))))) is_open.id
      ∙ ap (λ n. framed (front_of r ++ (id_field GREATEST ++ (middle_of r ++ (timeout_field n ++ tail_of r))))) is_open.timeout)

  pub open_length : length longest ≡ timeout_at + OPEN_BYTES + length (tail_of r)
  open_length =
      pieces_length longest first_four (front_of r) (id_field GREATEST) (middle_of r) (timeout_field GREATEST) (tail_of r) id_at timeout_at
      pieces refl longest_id longest_timeout is_open.id_place is_open.timeout_place

  pub open_front : take (id_at - LENGTH_BYTES) (drop LENGTH_BYTES longest) ≡ front_of r
  open_front =
      first_piece longest first_four (front_of r) (id_field GREATEST) (middle_of r) (timeout_field GREATEST) (tail_of r) id_at timeout_at
      pieces refl longest_id longest_timeout is_open.id_place is_open.timeout_place

  pub open_middle : take (timeout_at - (id_at + OPEN_BYTES)) (drop (id_at + OPEN_BYTES) longest) ≡ middle_of r
  open_middle =
      second_piece longest first_four (front_of r) (id_field GREATEST) (middle_of r) (timeout_field GREATEST) (tail_of r) id_at timeout_at
      pieces refl longest_id longest_timeout is_open.id_place is_open.timeout_place

  pub open_tail : take (length longest - (timeout_at + OPEN_BYTES)) (drop (timeout_at + OPEN_BYTES) longest) ≡ tail_of r
  open_tail =
      last_piece longest first_four (front_of r) (id_field GREATEST) (middle_of r) (timeout_field GREATEST) (tail_of r) id_at timeout_at
      pieces refl longest_id longest_timeout is_open.id_place is_open.timeout_place

  -- ---- and what it is filled with

  module _ (front id middle timeout tail : List ℕ) (is_front : front ≡ front_of r) (is_middle : middle ≡ middle_of r) (is_tail : tail ≡ tail_of r) where
    pub room_for : (room : Vec ℕ) → length id ≤ OPEN_BYTES → length timeout ≤ OPEN_BYTES → IsEmpty room → length longest ≤ vec_capacity room
        → IsRoomFor room (front ++ (id ++ (middle ++ (timeout ++ tail))))
    room_for room short also_short empty enough =
        record { empty = empty; enough = omega (arith, fits, enough); within = omega (arith, fits, is_open.within) }
      where
        fits : LENGTH_BYTES + length (front ++ (id ++ (middle ++ (timeout ++ tail)))) ≤ length longest
        fits = rw (is_front, is_middle, is_tail) (simp length-append (omega (arith, open_length, is_open.id_place, is_open.timeout_place, short, also_short)))

    pub filled_is : (q : Request) (n m : ℤ) → r ≡ q → id ≡ id_field n → timeout ≡ timeout_field m
        → framed (front ++ (id ++ (middle ++ (timeout ++ tail)))) ≡ request_frame (with_both n m q)
    unfolding front_of middle_of tail_of
    filled_is q n m is is_id is_timeout =
        rw (is_front, is_middle, is_tail, is_id, is_timeout) (ap (λ (x : Request). framed (front_of x ++ (id_field n ++ (middle_of x ++ (timeout_field m ++ tail_of x))))) is ∙ sym (frame_splits (with_both n m q)))

-- ---- six pieces, one after another

pub six_put : (v0 v1 v2 v3 v4 v5 v6 l a b d e f : List ℕ) → v0 ≡ [] → v1 ≡ v0 ++ l → v2 ≡ v1 ++ a → v3 ≡ v2 ++ b → v4 ≡ v3 ++ d → v5 ≡ v4 ++ e → v6 ≡ v5 ++ f
    → v6 ≡ l ++ (a ++ (b ++ (d ++ (e ++ f))))
six_put v0 v1 v2 v3 v4 v5 v6 l a b d e f e0 e1 e2 e3 e4 e5 e6 = rw (e6, e5, e4, e3, e2, e1, e0) (nested l a b d e f)
  where
    nested : (l a b d e f : List ℕ) → ((((l ++ a) ++ b) ++ d) ++ e) ++ f ≡ l ++ (a ++ (b ++ (d ++ (e ++ f))))
    nested l a b d e f =
        append_assoc (((l ++ a) ++ b) ++ d) e f
        ∙ (append_assoc ((l ++ a) ++ b) d (e ++ f) ∙ (append_assoc (l ++ a) b (d ++ (e ++ f)) ∙ append_assoc l a (b ++ (d ++ (e ++ f)))))

-- a body of five pieces, with its length before it
pub five_framed : (l a b d e f : List ℕ) (n : ℕ) → l ≡ to_be_bytes w32 n → n ≡ length a + length b + length d + length e + length f + LENGTH_BYTES
    → l ++ (a ++ (b ++ (d ++ (e ++ f)))) ≡ framed (a ++ (b ++ (d ++ (e ++ f))))
unfolding framed
five_framed l a b d e f n is long = ap (λ xs. xs ++ (a ++ (b ++ (d ++ (e ++ f))))) (is ∙ ap (to_be_bytes w32) same)
  where
    same : n ≡ length (a ++ (b ++ (d ++ (e ++ f)))) + LENGTH_BYTES
    same = long ∙ simp length-append (omega arith)
