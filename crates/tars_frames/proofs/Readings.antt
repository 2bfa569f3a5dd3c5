-- A stream has exactly one reading, and that of a longer stream carries it on.
use Rattle.std.proofs.Common.{◌≡◌, ◌<◌, ◌≤◌, ◌^◌, ◌+◌, ℕ, zero, suc, Bool, true, false, cond, List, [], ◌∷◌, ◌++◌, length, take, drop, refl, sym, ap, ◌∙◌, arith, subst, append_assoc, length-append, length-drop}
use Rattle.std.specs.Prelude.{nat_le, ◌&&◌}
use Rattle.std.specs.List.{AllByRecursion}
use Rattle.std.specs.Int.{w32, from_be_bytes, to_be_bytes}
use Rattle.std.proofs.lemmas.List.{take_at, drop_at, take-take, take-append-le, take-append-drop, length-take-le, append_cancel_left}
use Rattle.std.proofs.lemmas.Bool.{leb-true, le-leb}
use Rattle.std.proofs.lemmas.Nat.{from_be_bytes-to_be_bytes_4}
use Rattle.tars_frames.specs.Streams.{LENGTH_BYTES, SHORTEST, first_length, framed, joined, IsPacket, IsLength, IsReading, HasNoPacket}
use Rattle.tars_frames.specs.Cutting.{is_length, has_packet, packets_within, packets_of, rest_of}

pub joined-append : (packets others : List (List ℕ)) → joined (packets ++ others) ≡ joined packets ++ joined others
joined-append [] others = refl
joined-append (packet ∷ packets) others =
    ap (λ bytes. packet ++ bytes) (joined-append packets others) ∙ sym (append_assoc packet (joined packets) (joined others))

pub all-append : (most : ℕ) (packets others : List (List ℕ)) → AllByRecursion (IsPacket most) packets → AllByRecursion (IsPacket most) others
    → AllByRecursion (IsPacket most) (packets ++ others)
all-append most [] others all more = more
all-append most (packet ∷ packets) others all more = (all.0, all-append most packets others all.1 more)

-- a length is said by the first four bytes, whatever follows
pub first_length-more : (bytes more : List ℕ) → LENGTH_BYTES ≤ length bytes → first_length (bytes ++ more) ≡ first_length bytes
unfolding first_length
first_length-more bytes more h = ap (λ four. from_be_bytes w32 four) (take-append-le LENGTH_BYTES bytes more h)

first_length-take : (n : ℕ) (bytes : List ℕ) → LENGTH_BYTES ≤ n → first_length (take n bytes) ≡ first_length bytes
unfolding first_length
first_length-take n bytes h = ap (λ four. from_be_bytes w32 four) (take-take LENGTH_BYTES n bytes h)

both : (a b : Bool) → (a && b) ≡ true → (a ≡ true) × (b ≡ true)
both true true e = (refl, refl)
both true false e = cc
both false b e = cc

pub length_parts : (most number : ℕ) → is_length most number ≡ true → IsLength most number
unfolding is_length
length_parts most number e =
    let parts = both (nat_le SHORTEST number) (nat_le number most) e in
    record { least = leb-true _ _ parts.0; within = leb-true _ _ parts.1 }

pub length_at : (most number : ℕ) → IsLength most number → is_length most number ≡ true
unfolding is_length
length_at most number h = rw (le-leb _ _ h.least, le-leb _ _ h.within) refl

packet_parts : (most : ℕ) (bytes : List ℕ) → has_packet most bytes ≡ true → IsLength most (first_length bytes) × (first_length bytes ≤ length bytes)
unfolding has_packet
packet_parts most bytes e =
    let parts = both (is_length most (first_length bytes)) (nat_le (first_length bytes) (length bytes)) e in
    (length_parts most _ parts.0, leb-true _ _ parts.1)

packet_at : (most : ℕ) (bytes : List ℕ) → IsLength most (first_length bytes) → first_length bytes ≤ length bytes → has_packet most bytes ≡ true
unfolding has_packet
packet_at most bytes h within = rw (length_at most _ h, le-leb _ _ within) refl

-- a packet at the start is as long as the first four bytes say
pub said_at : (most : ℕ) (bytes packet more : List ℕ) → bytes ≡ packet ++ more → IsPacket most packet → first_length bytes ≡ length packet
said_at most bytes packet more e p =
    ap first_length e ∙ first_length-more packet more (let least = p.least in omega arith) ∙ p.said

pub no_packet : (most : ℕ) (bytes : List ℕ) → has_packet most bytes ≡ false → HasNoPacket most bytes
no_packet most bytes none packet more e p =
    let said = said_at most bytes packet more e p in
    let here : has_packet most bytes ≡ true = packet_at most bytes
    (record { least = (let least = p.least in omega arith); within = (let within = p.within in omega arith) })
    (let long = ap length e ∙ length-append packet more in omega arith) in
    cc

first_packet : (most : ℕ) (bytes : List ℕ) → has_packet most bytes ≡ true → IsPacket most (take (first_length bytes) bytes)
first_packet most bytes e =
    let parts = packet_parts most bytes e in
    let least = parts.0.least in
    let within = parts.0.within in
    let long = length-take-le (first_length bytes) bytes parts.1 in
    record {
      said = first_length-take (first_length bytes) bytes (omega arith) ∙ sym long;
      least = omega arith;
      within = omega arith;
    }

-- what stands at the start, by the length that is said there
pub no_length : (most : ℕ) (bytes : List ℕ) (number : ℕ) → number ≡ first_length bytes → is_length most number ≡ false → HasNoPacket most bytes
no_length most bytes number e bad packet more f p =
    let said = said_at most bytes packet more f p in
    let good : is_length most (length packet) ≡ true = length_at most (length packet) (record { least = p.least; within = p.within }) in
    let same : is_length most number ≡ is_length most (length packet) = ap (λ n. is_length most n) (e ∙ said) in
    cc

pub no_room : (most : ℕ) (bytes : List ℕ) (number : ℕ) → number ≡ first_length bytes → length bytes < number → HasNoPacket most bytes
no_room most bytes number e short packet more f p =
    let said = said_at most bytes packet more f p in
    let long = ap length f ∙ length-append packet more in
    absurd (omega arith)

pub packet_here : (most : ℕ) (bytes : List ℕ) (number : ℕ) → number ≡ first_length bytes → is_length most number ≡ true → number ≤ length bytes
    → IsPacket most (take number bytes)
packet_here most bytes number e good room =
    let has : has_packet most bytes ≡ true =
    packet_at most bytes (length_parts most (first_length bytes) (ap (λ n. is_length most n) (sym e) ∙ good)) (omega arith) in
    subst (λ n. IsPacket most (take n bytes)) (sym e) (first_packet most bytes has)

pub reading_none : (most : ℕ) (bytes : List ℕ) → HasNoPacket most bytes → IsReading most bytes [] bytes
reading_none most bytes none = record { bytes = refl; whole = tt; last = none }

pub reading_some : (most : ℕ) (packet bytes rest : List ℕ) (packets : List (List ℕ)) → IsPacket most packet → IsReading most bytes packets rest
    → IsReading most (packet ++ bytes) (packet ∷ packets) rest
reading_some most packet bytes rest packets p reading = record {
  bytes = ap (λ more. packet ++ more) reading.bytes ∙ sym (append_assoc packet (joined packets) rest);
  whole = (p, reading.whole);
  last = reading.last;
}

pub nothing_empty : (most : ℕ) → HasNoPacket most []
nothing_empty most packet more e p = let least = p.least in let long = ap length e ∙ length-append packet more in absurd (omega arith)

-- with room for all of them the packets and some rest are a reading
within_reads : (most count : ℕ) (bytes : List ℕ) → length bytes ≤ count
    → (rest : List ℕ) × IsReading most bytes (packets_within most count bytes) rest
within_reads most zero [] h = ([], reading_none most [] (nothing_empty most))
within_reads most zero (b ∷ bytes) h = absurd (omega arith)
within_reads most (suc count) bytes h = go (has_packet most bytes) refl (within_reads most count (drop (first_length bytes) bytes))
  where
    go : (b : Bool) → has_packet most bytes ≡ b
        → (length (drop (first_length bytes) bytes) ≤ count → (rest : List ℕ) × IsReading most (drop (first_length bytes) bytes) (packets_within most count (drop (first_length bytes) bytes)) rest)
        → (rest : List ℕ) × IsReading most bytes (cond b (take (first_length bytes) bytes ∷ packets_within most count (drop (first_length bytes) bytes)) []) rest
    go true e more =
        let parts = packet_parts most bytes e in
        let least = parts.0.least in
        let found = more (simp length-drop (omega arith)) in (
          found.0,
          subst (λ (s : List ℕ). IsReading most s (take (first_length bytes) bytes ∷ packets_within most count (drop (first_length bytes) bytes)) found.0)
              (take-append-drop (first_length bytes) bytes)
              (reading_some most _ _ found.0 _ (first_packet most bytes e) found.1),
        )
    go false e more = (bytes, reading_none most bytes (no_packet most bytes e))

-- a stream has a reading
pub the_reading : (most : ℕ) (stream : List ℕ) → IsReading most stream (packets_of most stream) (rest_of most stream)
unfolding packets_of rest_of
the_reading most stream =
    let found = within_reads most (length stream) stream (omega arith) in
    let packets = packets_within most (length stream) stream in
    let left : drop (length (joined packets)) stream ≡ found.0 =
    ap (λ s. drop (length (joined packets)) s) found.1.bytes ∙ drop_at (joined packets) found.0 (length (joined packets)) refl in
    subst (λ (rest : List ℕ). IsReading most stream packets rest) (sym left) found.1

-- packets that begin alike are the same
same_first : (most : ℕ) (packet other more others : List ℕ) → packet ++ more ≡ other ++ others → IsPacket most packet → IsPacket most other → packet ≡ other
same_first most packet other more others e p q =
    let said : length packet ≡ length other = sym (said_at most (packet ++ more) packet more refl p) ∙ said_at most (packet ++ more) other others e q in
    sym (take_at packet more (length packet) refl) ∙ ap (λ s. take (length packet) s) e ∙ take_at other others (length packet) (sym said)

-- and only one
pub same_reading : (most : ℕ) (packets others : List (List ℕ)) (stream rest other_rest : List ℕ) → IsReading most stream packets rest
    → IsReading most stream others other_rest → (packets ≡ others) × (rest ≡ other_rest)
same_reading most [] [] stream rest other_rest a b = (refl, sym a.bytes ∙ b.bytes)
same_reading most [] (q ∷ qs) stream rest other_rest a b =
    absurd (a.last q (joined qs ++ other_rest) (sym a.bytes ∙ b.bytes ∙ append_assoc q (joined qs) other_rest) b.whole.0)
same_reading most (p ∷ ps) [] stream rest other_rest a b =
    absurd (b.last p (joined ps ++ rest) (sym b.bytes ∙ a.bytes ∙ append_assoc p (joined ps) rest) a.whole.0)
same_reading most (p ∷ ps) (q ∷ qs) stream rest other_rest a b =
    let e : p ++ (joined ps ++ rest) ≡ q ++ (joined qs ++ other_rest) =
    sym (append_assoc p (joined ps) rest) ∙ sym a.bytes ∙ b.bytes ∙ append_assoc q (joined qs) other_rest in
    let first : p ≡ q = same_first most p q (joined ps ++ rest) (joined qs ++ other_rest) e a.whole.0 b.whole.0 in
    let after : joined ps ++ rest ≡ joined qs ++ other_rest =
    append_cancel_left q _ _ (ap (λ s. s ++ (joined ps ++ rest)) (sym first) ∙ e) in
    let more = same_reading most ps qs (joined ps ++ rest) rest other_rest
    (record { bytes = refl; whole = a.whole.1; last = a.last }) (record { bytes = after; whole = b.whole.1; last = b.last }) in
    (cc, more.1)

pub packets_are : (most : ℕ) (stream rest : List ℕ) (packets : List (List ℕ)) → IsReading most stream packets rest → packets_of most stream ≡ packets
packets_are most stream rest packets reading = (same_reading most _ packets stream _ rest (the_reading most stream) reading).0

pub rest_is : (most : ℕ) (stream rest : List ℕ) (packets : List (List ℕ)) → IsReading most stream packets rest → rest_of most stream ≡ rest
rest_is most stream rest packets reading = (same_reading most _ packets stream _ rest (the_reading most stream) reading).1

-- what follows is read after what is left
pub carried : (most : ℕ) (stream more rest last : List ℕ) (packets others : List (List ℕ)) → IsReading most stream packets rest
    → IsReading most (rest ++ more) others last → IsReading most (stream ++ more) (packets ++ others) last
carried most stream more rest last packets others a b = record {
  bytes = ap (λ s. s ++ more) a.bytes ∙ append_assoc (joined packets) rest more ∙ ap (λ s. joined packets ++ s) b.bytes
      ∙ sym (append_assoc (joined packets) (joined others) last) ∙ ap (λ s. s ++ last) (sym (joined-append packets others));
  whole = all-append most packets others a.whole b.whole;
  last = b.last;
}

pub carried_on : (most : ℕ) (stream more : List ℕ)
    → (packets_of most (stream ++ more) ≡ packets_of most stream ++ packets_of most (rest_of most stream ++ more))
    × (rest_of most (stream ++ more) ≡ rest_of most (rest_of most stream ++ more))
carried_on most stream more =
    let reading = carried most stream more _ _ _ _ (the_reading most stream) (the_reading most (rest_of most stream ++ more)) in
    (packets_are most (stream ++ more) _ _ reading, rest_is most (stream ++ more) _ _ reading)

pub framed_is_packet : (most : ℕ) (body : List ℕ) → SHORTEST ≤ length body + LENGTH_BYTES → length body + LENGTH_BYTES ≤ most → most < 2 ^ 32
    → IsPacket most (framed body)
unfolding framed first_length
framed_is_packet most body least within most_small =
    let long : length (to_be_bytes w32 (length body + LENGTH_BYTES) ++ body) ≡ length body + LENGTH_BYTES = omega arith in
    record {
      said = from_be_bytes-to_be_bytes_4 (length body + LENGTH_BYTES) (omega arith) ∙ sym long;
      least = omega arith;
      within = omega arith;
    }
