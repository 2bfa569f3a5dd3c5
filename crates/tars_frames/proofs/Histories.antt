-- What the steps of `Frames` by what waits say of the stream.
use Rattle.std.proofs.Common.{◌≡◌, ◌+◌, ℕ, Bool, true, false, cond, List, [], ◌∷◌, ◌++◌, length, refl, sym, ap, ◌∙◌, arith, subst, append_assoc, append-nil, length-append, Option, None, Some, Result, Ok, Err}
use Rattle.std.specs.Option.{IfSome, option_to_list}
use Rattle.std.specs.List.{slice_get}
use Rattle.tars_frames.specs.declared.frame_fault.FrameFault.{FrameFault}
use Rattle.tars_frames.specs.declared.frame_fault.FrameFault.TheVariants.{BadLength, Memory}
use Rattle.tars_frames.specs.Streams.{IsPacket, first_length, joined, IsReading, IsBadAt}
use Rattle.tars_frames.specs.Cutting.{is_refused, says_bad, packets_of, rest_of}
use Rattle.tars_frames.specs.Feeding.{Kept, IsAt, Tells, UnlessMemory, OnMemory, fed, told}
use Rattle.tars_frames.specs.Waiting.{Judges, Steps, TakesOne, fed_kept}
use Rattle.tars_frames.proofs.Readings.{joined-append, all-append, the_reading, packets_are, rest_is, reading_none, reading_some}
use Rattle.tars_frames.proofs.BadLengths.{refused_bad, bad_refused}

-- the packets of what waits follow those that were given
pub stream_reads : (most : ℕ) (stream rest : List ℕ) (given packets : List (List ℕ)) (kept : Kept) → IsAt most stream given kept
    → IsReading most kept.rest packets rest → IsReading most stream (given ++ packets) rest
stream_reads most stream rest given packets kept h reading = record {
  bytes = h.bytes ∙ ap (λ s. joined given ++ s) reading.bytes ∙ sym (append_assoc (joined given) (joined packets) rest)
      ∙ ap (λ s. s ++ rest) (sym (joined-append given packets));
  whole = all-append most given packets h.whole reading.whole;
  last = reading.last;
}

pub packets_follow : (most : ℕ) (stream : List ℕ) (given : List (List ℕ)) (kept : Kept) → IsAt most stream given kept
    → packets_of most stream ≡ given ++ packets_of most kept.rest
packets_follow most stream given kept h = packets_are most stream _ _ (stream_reads most stream _ given _ kept h (the_reading most kept.rest))

pub rest_same : (most : ℕ) (stream : List ℕ) (given : List (List ℕ)) (kept : Kept) → IsAt most stream given kept
    → rest_of most stream ≡ rest_of most kept.rest
rest_same most stream given kept h = rest_is most stream _ _ (stream_reads most stream _ given _ kept h (the_reading most kept.rest))

refused_same : (most : ℕ) (stream : List ℕ) (given : List (List ℕ)) (kept : Kept) → IsAt most stream given kept
    → is_refused most stream ≡ is_refused most kept.rest
unfolding is_refused
refused_same most stream given kept h = ap (λ rest. says_bad most rest) (rest_same most stream given kept h)

-- a piece goes to the stream as it goes to what waits
fed_follows : (most : ℕ) (stream piece : List ℕ) (given : List (List ℕ)) (kept : Kept) → IsAt most stream given kept
    → IsAt most (fed most stream piece) given (fed_kept most kept piece)
unfolding fed
fed_follows most stream piece given kept h = go (is_refused most stream) (is_refused most kept.rest) (refused_same most stream given kept h)
  where
    go : (b c : Bool) → b ≡ c → IsAt most (cond b stream (stream ++ piece)) given (record { rest = cond c kept.rest (kept.rest ++ piece); place = kept.place })
    go true true e = record { bytes = h.bytes; whole = h.whole; place_is = h.place_is }
    go false false e = record {
      bytes = ap (λ s. s ++ piece) h.bytes ∙ append_assoc (joined given) kept.rest piece;
      whole = h.whole;
      place_is = h.place_is;
    }
    go true false e = absurd cc
    go false true e = absurd cc

told_after : (place given more at all : ℕ) → place ≡ told given → at ≡ told (place + more) → all ≡ given + more → at ≡ told all
told_after place given more at all e f g = omega arith

tells_good : (most : ℕ) (stream : List ℕ) (given : List (List ℕ)) (kept : Kept) → IsAt most stream given kept
    → is_refused most kept.rest ≡ false → (place number : ℕ) → IsBadAt most stream place number → ⊥
tells_good most stream given kept h good place number b =
    let refused = bad_refused most stream place number b in
    let same = refused_same most stream given kept h in
    cc

tells_follows : {T : Type 0} (most : ℕ) (stream : List ℕ) (given : List (List ℕ)) (kept : Kept) (r : Result T FrameFault) → IsAt most stream given kept
    → Judges most kept r → Tells most stream r
tells_follows most stream given kept (Ok done) h j = tells_good most stream given kept h j
tells_follows most stream given kept (Err (BadLength at number)) h j =
    let bad = refused_bad most stream (refused_same most stream given kept h ∙ j.0) in (
      length (joined (packets_of most stream)),
      told_after kept.place (length (joined given)) (length (joined (packets_of most kept.rest))) at _ h.place_is j.1
          (ap (λ packets. length (joined packets)) (packets_follow most stream given kept h)
          ∙ ap length (joined-append given (packets_of most kept.rest)) ∙ length-append (joined given) (joined (packets_of most kept.rest))),
      subst (λ n. IsBadAt most stream (length (joined (packets_of most stream))) n)
          (ap first_length (rest_same most stream given kept h) ∙ sym j.2) bad,
    )
tells_follows most stream given kept (Err Memory) h j = tt

pub step_kept : {T : Type 0} (most : ℕ) (piece : List ℕ) (old new : Kept) (r : Result T FrameFault) → Steps most piece old new r
    → (stream : List ℕ) (given : List (List ℕ)) → IsAt most stream given old → UnlessMemory r (IsAt most (fed most stream piece) given new)
step_kept most piece old new (Ok done) s stream given h =
    subst (λ (k : Kept). IsAt most (fed most stream piece) given k) (sym s.0) (fed_follows most stream piece given old h)
step_kept most piece old new (Err (BadLength at number)) s stream given h =
    subst (λ (k : Kept). IsAt most (fed most stream piece) given k) (sym s.0) (fed_follows most stream piece given old h)
step_kept most piece old new (Err Memory) s stream given h = tt

pub step_told : {T : Type 0} (most : ℕ) (piece : List ℕ) (old new : Kept) (r : Result T FrameFault) → Steps most piece old new r
    → (stream : List ℕ) (given : List (List ℕ)) → IsAt most stream given old → Tells most (fed most stream piece) r
step_told {T = T} most piece old new (Ok done) s stream given h =
    tells_follows {T = T} most (fed most stream piece) given new (Ok done)
    (subst (λ (k : Kept). IsAt most (fed most stream piece) given k) (sym s.0) (fed_follows most stream piece given old h)) s.1
step_told {T = T} most piece old new (Err (BadLength at number)) s stream given h =
    tells_follows {T = T} most (fed most stream piece) given new (Err (BadLength at number))
    (subst (λ (k : Kept). IsAt most (fed most stream piece) given k) (sym s.0) (fed_follows most stream piece given old h)) s.1
step_told most piece old new (Err Memory) s stream given h = tt

pub step_memory : {T : Type 0} (most : ℕ) (piece : List ℕ) (old new : Kept) (r : Result T FrameFault) → Steps most piece old new r
    → OnMemory r (new ≡ old) × OnMemory r (is_refused most old.rest ≡ false)
step_memory most piece old new (Ok done) s = (tt, tt)
step_memory most piece old new (Err (BadLength at number)) s = (tt, tt)
step_memory most piece old new (Err Memory) s = (s.0, s.1)

-- the place behind the last of some packets, and the one after them
none_after : {A : Type 0} (xs : List A) → slice_get xs (length xs) ≡ None
none_after [] = refl
none_after (x ∷ xs) = none_after xs

some_after : {A : Type 0} (xs ys : List A) (y : A) → slice_get (xs ++ y ∷ ys) (length xs) ≡ Some y
some_after [] ys y = refl
some_after (x ∷ xs) ys y = some_after xs ys y

pub next_packet : (most : ℕ) (old new : Kept) (o : Option (List ℕ)) → TakesOne most old new o
    → (stream : List ℕ) (given : List (List ℕ)) → IsAt most stream given old → o ≡ slice_get (packets_of most stream) (length given)
next_packet most old new None s stream given h =
    let all : packets_of most stream ≡ given ++ [] = packets_are most stream _ _ (stream_reads most stream _ given [] old h (reading_none most old.rest s.1)) in
    sym (ap (λ packets. slice_get packets (length given)) (all ∙ append-nil given) ∙ none_after given)
next_packet most old new (Some packet) s stream given h =
    let reading = reading_some most packet new.rest _ _ s.0 (the_reading most new.rest) in
    let waits : packets_of most old.rest ≡ packet ∷ packets_of most new.rest =
    ap (λ bytes. packets_of most bytes) s.1 ∙ packets_are most (packet ++ new.rest) _ _ reading in
    sym (ap (λ packets. slice_get packets (length given)) (packets_follow most stream given old h ∙ ap (λ packets. given ++ packets) waits)
    ∙ some_after given (packets_of most new.rest) packet)

pub next_kept : (most : ℕ) (old new : Kept) (o : Option (List ℕ)) → TakesOne most old new o
    → (stream : List ℕ) (given : List (List ℕ)) → IsAt most stream given old → IsAt most stream (given ++ option_to_list o) new
next_kept most old new None s stream given h =
    subst (λ (packets : List (List ℕ)). IsAt most stream packets new) (sym (append-nil given))
    (subst (λ (k : Kept). IsAt most stream given k) (sym s.0) h)
next_kept most old new (Some packet) s stream given h = record {
  bytes = h.bytes ∙ ap (λ s. joined given ++ s) s.1 ∙ sym (append_assoc (joined given) packet new.rest)
      ∙ ap (λ s. s ++ new.rest) (sym (joined-append given (packet ∷ []) ∙ ap (λ s. joined given ++ s) (append-nil packet)));
  whole = all-append most given (packet ∷ []) h.whole (s.0, tt);
  place_is = told_after old.place (length (joined given)) (length packet) new.place _ h.place_is s.2
      (ap length (joined-append given (packet ∷ []) ∙ ap (λ s. joined given ++ s) (append-nil packet)) ∙ length-append (joined given) packet);
}

-- a piece for a stream that is refused
pub step_refused : {T : Type 0} (most : ℕ) (piece : List ℕ) (old : Kept) (fault : FrameFault) (r : Result T FrameFault) → r ≡ Err fault
    → Judges {T = T} most old (Err fault) → Steps most piece old old r
unfolding fed
step_refused {T = T} most piece old (BadLength at number) r e j =
    subst (λ (q : Result T FrameFault). Steps most piece old old q) (sym e)
    (let kept : old ≡ record { rest = cond (is_refused most old.rest) old.rest (old.rest ++ piece); place = old.place } =
    ap (λ (b : Bool). record { rest = cond b old.rest (old.rest ++ piece); place = old.place }) (sym j.0) in (kept, j))
step_refused most piece old Memory r e j = absurd j

-- a piece that is taken
pub step_taken : {T : Type 0} (most : ℕ) (piece : List ℕ) (old new : Kept) (r : Result T FrameFault) → is_refused most old.rest ≡ false
    → new ≡ record { rest = old.rest ++ piece; place = old.place } → Judges most new r → Steps most piece old new r
unfolding fed
step_taken most piece old new (Ok done) good e j =
    (e ∙ ap (λ (b : Bool). record { rest = cond b old.rest (old.rest ++ piece); place = old.place }) (sym good), j)
step_taken most piece old new (Err (BadLength at number)) good e j =
    (e ∙ ap (λ (b : Bool). record { rest = cond b old.rest (old.rest ++ piece); place = old.place }) (sym good), j)
step_taken most piece old new (Err Memory) good e j = absurd j

pub next_taken : (most : ℕ) (old new : Kept) (o : Option (List ℕ)) → TakesOne most old new o
    → IfSome o (λ packet. IsPacket most packet × (old.rest ≡ packet ++ new.rest))
next_taken most old new None s = tt
next_taken most old new (Some packet) s = (s.0, s.1)
