-- Bad lengths: a stream has one at most, which stays.
use Rattle.std.proofs.Common.{◌≡◌, ◌<◌, ◌≤◌, ℕ, Bool, true, false, List, ◌++◌, length, refl, sym, ap, ◌∙◌, arith, subst, append_assoc, length-append, ◌⊎◌, inl, inr}
use Rattle.std.specs.Prelude.{nat_le, ◌&&◌, not}
use Rattle.std.proofs.lemmas.Bool.{leb-true, le-leb}
use Rattle.tars_frames.specs.Streams.{LENGTH_BYTES, first_length, joined, IsLength, IsReading, IsBadAt, HasNoPacket}
use Rattle.tars_frames.specs.Cutting.{is_length, says_bad, is_refused, packets_of, rest_of}
use Rattle.tars_frames.proofs.Readings.{length_parts, length_at, first_length-more, said_at, the_reading, same_reading, rest_is}

with_not : (a b : Bool) → (a && not b) ≡ true → (a ≡ true) × (b ≡ false)
with_not true true e = cc
with_not true false e = (refl, refl)
with_not false b e = cc

not_length : (most number : ℕ) → is_length most number ≡ false → IsLength most number → ⊥
not_length most number e h = let f = length_at most number h in cc

is_not_length : (most number : ℕ) → (IsLength most number → ⊥) → is_length most number ≡ false
is_not_length most number bad = go (is_length most number) refl
  where
    go : (b : Bool) → is_length most number ≡ b → b ≡ false
    go true e = absurd (bad (length_parts most number e))
    go false e = refl

bad_parts : (most : ℕ) (bytes : List ℕ) → says_bad most bytes ≡ true → (LENGTH_BYTES ≤ length bytes) × (IsLength most (first_length bytes) → ⊥)
unfolding says_bad
bad_parts most bytes e =
    let parts = with_not (nat_le LENGTH_BYTES (length bytes)) (is_length most (first_length bytes)) e in
    (leb-true _ _ parts.0, not_length most _ parts.1)

pub says_bad_at : (most : ℕ) (bytes : List ℕ) → LENGTH_BYTES ≤ length bytes → (IsLength most (first_length bytes) → ⊥) → says_bad most bytes ≡ true
unfolding says_bad
says_bad_at most bytes four bad = rw (le-leb _ _ four, is_not_length most _ bad) refl

good_short : (most : ℕ) (bytes : List ℕ) → length bytes < LENGTH_BYTES → says_bad most bytes ≡ false
good_short most bytes short = go (says_bad most bytes) refl
  where
    go : (b : Bool) → says_bad most bytes ≡ b → b ≡ false
    go true e = absurd (let parts = bad_parts most bytes e in omega arith)
    go false e = refl

good_length : (most : ℕ) (bytes : List ℕ) (number : ℕ) → number ≡ first_length bytes → is_length most number ≡ true → says_bad most bytes ≡ false
good_length most bytes number e good = go (says_bad most bytes) refl
  where
    go : (b : Bool) → says_bad most bytes ≡ b → b ≡ false
    go true f = absurd ((bad_parts most bytes f).1 (subst (λ n. IsLength most n) e (length_parts most number good)))
    go false f = refl

-- a reading tells of a bad length by the start of what is left
pub good_by_rest : (most : ℕ) (stream rest : List ℕ) (packets : List (List ℕ)) → IsReading most stream packets rest
    → (length rest < LENGTH_BYTES) ⊎ ((number : ℕ) × (number ≡ first_length rest) × (is_length most number ≡ true))
    → is_refused most stream ≡ false
unfolding is_refused
good_by_rest most stream rest packets reading (inl short) =
    ap (λ s. says_bad most s) (rest_is most stream rest packets reading) ∙ good_short most rest short
good_by_rest most stream rest packets reading (inr good) =
    ap (λ s. says_bad most s) (rest_is most stream rest packets reading) ∙ good_length most rest good.0 good.1 good.2

pub refused_by_rest : (most : ℕ) (stream rest : List ℕ) (packets : List (List ℕ)) → IsReading most stream packets rest → LENGTH_BYTES ≤ length rest
    → is_length most (first_length rest) ≡ false → is_refused most stream ≡ true
unfolding is_refused
refused_by_rest most stream rest packets reading four bad =
    ap (λ s. says_bad most s) (rest_is most stream rest packets reading) ∙ says_bad_at most rest four (not_length most _ bad)

pub refused_bad : (most : ℕ) (stream : List ℕ) → is_refused most stream ≡ true
    → IsBadAt most stream (length (joined (packets_of most stream))) (first_length (rest_of most stream))
unfolding is_refused
refused_bad most stream e =
    let parts = bad_parts most (rest_of most stream) e in
    record {
      packets = packets_of most stream;
      rest = rest_of most stream;
      reading = the_reading most stream;
      place_is = refl;
      four = parts.0;
      number_is = refl;
      bad = parts.1;
    }

pub bad_refused : (most : ℕ) (stream : List ℕ) (place number : ℕ) → IsBadAt most stream place number → is_refused most stream ≡ true
unfolding is_refused
bad_refused most stream place number b =
    ap (λ rest. says_bad most rest) (rest_is most stream b.rest b.packets b.reading)
    ∙ says_bad_at most b.rest b.four (λ h. b.bad (subst (λ n. IsLength most n) (sym b.number_is) h))

pub one_bad : (most : ℕ) (stream : List ℕ) (place number other_place other_number : ℕ) → IsBadAt most stream place number
    → IsBadAt most stream other_place other_number → (place ≡ other_place) × (number ≡ other_number)
one_bad most stream place number other_place other_number a b =
    let same = same_reading most a.packets b.packets stream a.rest b.rest a.reading b.reading in
    (a.place_is ∙ ap (λ packets. length (joined packets)) same.0 ∙ sym b.place_is, a.number_is ∙ ap first_length same.1 ∙ sym b.number_is)

-- no packet begins with a bad length, whatever follows
still_none : (most : ℕ) (rest more : List ℕ) → LENGTH_BYTES ≤ length rest → (IsLength most (first_length rest) → ⊥) → HasNoPacket most (rest ++ more)
still_none most rest more four bad packet others e p =
    let said : first_length rest ≡ length packet = sym (first_length-more rest more four) ∙ said_at most (rest ++ more) packet others e p in
    bad (subst (λ n. IsLength most n) (sym said) (record { least = p.least; within = p.within }))

pub bad_stays : (most : ℕ) (stream more : List ℕ) (place number : ℕ) → IsBadAt most stream place number → IsBadAt most (stream ++ more) place number
bad_stays most stream more place number b = record {
  packets = b.packets;
  rest = b.rest ++ more;
  reading = record {
    bytes = ap (λ s. s ++ more) b.reading.bytes ∙ append_assoc (joined b.packets) b.rest more;
    whole = b.reading.whole;
    last = still_none most b.rest more b.four (λ h. b.bad (subst (λ n. IsLength most n) (sym b.number_is) h));
  };
  place_is = b.place_is;
  four = (let four = b.four in let long = length-append b.rest more in omega arith);
  number_is = b.number_is ∙ sym (first_length-more b.rest more b.four);
  bad = b.bad;
}

pub refused_stays : (most : ℕ) (stream more : List ℕ) → is_refused most stream ≡ true → is_refused most (stream ++ more) ≡ true
refused_stays most stream more e = bad_refused most (stream ++ more) _ _ (bad_stays most stream more _ _ (refused_bad most stream e))
