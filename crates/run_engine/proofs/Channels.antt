-- One direction of a link: what was written, and how far it was read.
use Rattle.std.proofs.Common.{◌≡◌, ◌≤◌, ◌+◌, ℕ, Bool, true, false, List, [], ◌∷◌, ◌++◌, length, take, drop, Option, None, refl, sym, ap, ◌∙◌, subst, arith, append_assoc}
use Rattle.std.specs.Prelude.{slice_get}
use Rattle.std.proofs.lemmas.List.{append-nil, length-append, length-drop, take-append-le}
use Rattle.std.proofs.Math.Seq.{drop-append_seam, drop-append-le, drop-drop, drop-length, take-add}
use Rattle.tars_frames.specs.Streams.{LONGEST, IsBadAt, joined}
use Rattle.tars_frames.specs.Cutting.{packets_of, rest_of, is_refused}
use Rattle.tars_frames.specs.Feeding.{Kept, IsAt, fed}
use Rattle.tars_frames.proofs.CallerLemmas.{the_reading, packets_are, refused_bad, packets_follow}
use Rattle.tars_frames.proofs.Readings.{nothing_empty}
use Rattle.run_course.specs.Courses.{count_of, read_to, news, packets_to}
use Rattle.run_course.proofs.Lists.{none_some}
use Rattle.run_course.proofs.Streams.{packets_stay}
use Rattle.run_engine.specs.declared.channel.Channel.{Channel}
use Rattle.run_engine.specs.Tracks.{Reads}

-- ---- a piece

pub good_stream : (stream : List ℕ) → ((place number : ℕ) → IsBadAt LONGEST stream place number → ⊥) → is_refused LONGEST stream ≡ false
good_stream stream none = go (is_refused LONGEST stream) refl
  where
    go : (b : Bool) → is_refused LONGEST stream ≡ b → is_refused LONGEST stream ≡ false
    go true e = absurd (none _ _ (refused_bad LONGEST stream e))
    go false e = e

-- of a stream that is not refused a piece is kept
pub fed_is : (stream piece : List ℕ) → is_refused LONGEST stream ≡ false → fed LONGEST stream piece ≡ stream ++ piece
unfolding fed
fed_is stream piece good = rw good refl

pub fed_on : (stream piece : List ℕ) (given : List (List ℕ)) (kept : Kept) → is_refused LONGEST stream ≡ false
    → IsAt LONGEST (fed LONGEST stream piece) given kept → IsAt LONGEST (stream ++ piece) given kept
fed_on stream piece given kept good at = subst (λ bytes. IsAt LONGEST bytes given kept) (fed_is stream piece good) at

-- ---- all packets

nothing_at : {X : Type 0} (xs ys : List X) → None ≡ slice_get (xs ++ ys) (length xs) → ys ≡ []
nothing_at [] [] e = refl
nothing_at [] (y ∷ ys) e = absurd (none_some y e)
nothing_at (x ∷ xs) ys e = nothing_at xs ys e

-- where no more is given, all packets were
pub all_given : (stream : List ℕ) (given : List (List ℕ)) (kept : Kept) → IsAt LONGEST stream given kept
    → None ≡ slice_get (packets_of LONGEST stream) (length given) → packets_of LONGEST stream ≡ given
all_given stream given kept at none =
    let follow = packets_follow LONGEST stream given kept at in
    let last = nothing_at given (packets_of LONGEST kept.rest) (none ∙ ap (λ packets. slice_get packets (length given)) follow) in
    follow ∙ ap (λ packets. given ++ packets) last ∙ append-nil given

pub all_taken : (stream : List ℕ) (given : List (List ℕ)) (kept : Kept) → IsAt LONGEST stream given kept
    → None ≡ slice_get (packets_of LONGEST stream) (length given) → IsAt LONGEST stream (packets_of LONGEST stream) kept
all_taken stream given kept at none = subst (λ packets. IsAt LONGEST stream packets kept) (sym (all_given stream given kept at none)) at

pub one_given : (stream : List ℕ) (given packets new : List (List ℕ)) (packet : List ℕ) (kept : Kept) → new ≡ packets ++ packet ∷ []
    → IsAt LONGEST stream ((given ++ packets) ++ packet ∷ []) kept → IsAt LONGEST stream (given ++ new) kept
one_given stream given packets new packet kept e at =
    subst (λ all. IsAt LONGEST stream all kept) (append_assoc given packets (packet ∷ []) ∙ ap (λ more. given ++ more) (sym e)) at

-- ---- a channel

pub new_reads : (channel : Channel) → channel.waiting.items ≡ [] → IsAt LONGEST [] [] channel.frames → channel.refused ≡ false → Reads channel [] 0
new_reads channel empty at good = record {
  within = omega arith;
  waiting_is = empty;
  frames = subst (λ packets. IsAt LONGEST [] packets channel.frames) (sym no_packets) at;
  refused_is = good ∙ sym not_refused;
}
  where
    no_packets : packets_to 0 [] ≡ []
    no_packets = packets_are LONGEST [] [] [] (record { bytes = refl; whole = tt; last = nothing_empty LONGEST })

    not_refused : is_refused LONGEST [] ≡ false
    not_refused = good_stream [] (λ place number bad. absurd (let four = bad.four in let split = ap length bad.reading.bytes in let joins = length-append (joined bad.packets) bad.rest in omega (arith, four, split, joins)))

-- what is written waits
pub write_reads : (old new : Channel) (stream bytes : List ℕ) (at : ℕ) → new.waiting.items ≡ old.waiting.items ++ bytes
    → new.frames ≡ old.frames → new.refused ≡ old.refused → Reads old stream at → Reads new (stream ++ bytes) at
write_reads old new stream bytes at waiting frames refused reads = record {
  within = let long = length-append stream bytes in omega (arith, long, reads.within);
  waiting_is = waiting ∙ ap (λ w. w ++ bytes) reads.waiting_is ∙ sym (drop-append-le at stream bytes reads.within);
  frames =
      subst (λ (kept : Kept). IsAt LONGEST (take at (stream ++ bytes)) (packets_to at (stream ++ bytes)) kept) (sym frames)
      (subst (λ packets. IsAt LONGEST (take at (stream ++ bytes)) packets old.frames) (sym (packets_stay at stream bytes reads.within))
      (subst (λ prefix. IsAt LONGEST prefix (packets_to at stream) old.frames) (sym (take-append-le at stream bytes reads.within)) reads.frames));
  refused_is = refused ∙ reads.refused_is ∙ ap (λ prefix. is_refused LONGEST prefix) (sym (take-append-le at stream bytes reads.within));
}

-- the place after it
place_after : (at : ℕ) (bytes : Option ℕ) (stream : List ℕ) → is_refused LONGEST (take at stream) ≡ false
    → read_to at bytes stream ≡ at + count_of bytes (length (drop at stream))
unfolding read_to
place_after at bytes stream good = rw good refl

place_same : (at : ℕ) (bytes : Option ℕ) (stream : List ℕ) → is_refused LONGEST (take at stream) ≡ true → read_to at bytes stream ≡ at
unfolding read_to
place_same at bytes stream refused = rw refused refl

prefix_after : (old : Channel) (stream piece : List ℕ) (at count : ℕ) → Reads old stream at → piece ≡ take count old.waiting.items
    → take at stream ++ piece ≡ take (at + count) stream
prefix_after old stream piece at count reads front =
    ap (λ bytes. take at stream ++ bytes) (front ∙ ap (λ waiting. take count waiting) reads.waiting_is) ∙ sym (take-add at count stream)

to_is : (old : Channel) (stream : List ℕ) (at count : ℕ) (bytes : Option ℕ) → Reads old stream at → old.refused ≡ false
    → count ≡ count_of bytes (length old.waiting.items) → read_to at bytes stream ≡ at + count
to_is old stream at count bytes reads good is =
    place_after at bytes stream (sym reads.refused_is ∙ good) ∙ ap (λ n. at + n) (ap (λ waiting. count_of bytes (length waiting)) (sym reads.waiting_is) ∙ sym is)

pub read_news : (old : Channel) (stream piece : List ℕ) (at count : ℕ) (bytes : Option ℕ) (packets : List (List ℕ)) → Reads old stream at → old.refused ≡ false
    → count ≡ count_of bytes (length old.waiting.items) → piece ≡ take count old.waiting.items
    → packets_of LONGEST (take at stream ++ piece) ≡ packets_to at stream ++ packets → packets ≡ news at (read_to at bytes stream) stream
unfolding news
read_news old stream piece at count bytes packets reads good is front read =
    sym (ap (λ whole. drop (length (packets_to at stream)) whole)
    (ap (λ to. packets_to to stream) (to_is old stream at count bytes reads good is)
    ∙ ap (λ prefix. packets_of LONGEST prefix) (sym (prefix_after old stream piece at count reads front)) ∙ read)
    ∙ drop-append_seam (packets_to at stream) packets)

pub read_reads : (old new : Channel) (stream piece : List ℕ) (at count : ℕ) (bytes : Option ℕ) → Reads old stream at → old.refused ≡ false
    → count ≡ count_of bytes (length old.waiting.items) → count ≤ length old.waiting.items → piece ≡ take count old.waiting.items
    → new.waiting.items ≡ drop count old.waiting.items → new.refused ≡ is_refused LONGEST (take at stream ++ piece)
    → IsAt LONGEST (take at stream ++ piece) (packets_of LONGEST (take at stream ++ piece)) new.frames
    → Reads new stream (read_to at bytes stream)
read_reads old new stream piece at count bytes reads good is within front waiting refused frames =
    subst (λ to. Reads new stream to) (sym (to_is old stream at count bytes reads good is))
    (record {
      within = let waits = length-drop at stream in let all = ap length reads.waiting_is in omega (arith, waits, all, within, reads.within);
      waiting_is = waiting ∙ ap (λ waiting. drop count waiting) reads.waiting_is ∙ drop-drop count at stream;
      frames = subst (λ prefix. IsAt LONGEST prefix (packets_of LONGEST prefix) new.frames) (prefix_after old stream piece at count reads front) frames;
      refused_is = refused ∙ ap (λ prefix. is_refused LONGEST prefix) (prefix_after old stream piece at count reads front);
    })

-- after a bad length nothing is read
pub stopped_news : (old : Channel) (stream : List ℕ) (at : ℕ) (bytes : Option ℕ) → Reads old stream at → old.refused ≡ true → [] ≡ news at (read_to at bytes stream) stream
unfolding news
stopped_news old stream at bytes reads refused =
    sym (ap (λ to. drop (length (packets_to at stream)) (packets_to to stream)) (place_same at bytes stream (sym reads.refused_is ∙ refused))
    ∙ drop-length (packets_to at stream))

pub stopped_reads : (old : Channel) (stream : List ℕ) (at : ℕ) (bytes : Option ℕ) → Reads old stream at → old.refused ≡ true → Reads old stream (read_to at bytes stream)
stopped_reads old stream at bytes reads refused = subst (λ to. Reads old stream to) (sym (place_same at bytes stream (sym reads.refused_is ∙ refused))) reads

-- what was read after the packets
pub rest_left : (channel : Channel) (stream : List ℕ) (at : ℕ) → Reads channel stream at → channel.frames.rest ≡ rest_of LONGEST (take at stream)
rest_left channel stream at reads =
    let split = reads.frames.bytes in
    let reading = the_reading LONGEST (take at stream) in
    same_rest (packets_to at stream) (sym split ∙ reading.bytes)
  where
    same_after : (xs ys zs : List ℕ) → xs ++ ys ≡ xs ++ zs → ys ≡ zs
    same_after [] ys zs e = e
    same_after (x ∷ xs) ys zs e = same_after xs ys zs (cc)

    same_rest : (packets : List (List ℕ)) → joined packets ++ channel.frames.rest ≡ joined packets ++ rest_of LONGEST (take at stream)
        → channel.frames.rest ≡ rest_of LONGEST (take at stream)
    same_rest packets e = same_after (joined packets) _ _ e
