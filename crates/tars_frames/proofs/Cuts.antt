-- The fields of `Frames`, step by step.
use Rattle.std.proofs.Common.{◌≡◌, ◌<◌, ◌≤◌, ◌+◌, ◌-◌, ℕ, List, [], ◌∷◌, ◌++◌, length, drop, refl, sym, ap, ◌∙◌, arith, subst, append_assoc, append-nil, Some, Err, false, length-append, length-drop}
use Rattle.std.specs.List.{AllByRecursion}
use Rattle.std.proofs.lemmas.List.{drop_at, drop-drop, drop-append-le}
use Rattle.tars_frames.specs.Streams.{LENGTH_BYTES, LONGEST, first_length, joined, IsPacket, IsReading, HasNoPacket}
use Rattle.tars_frames.specs.declared.frame_fault.FrameFault.TheVariants.{BadLength}
use Rattle.tars_frames.specs.Cutting.{is_length}
use Rattle.tars_frames.specs.Feeding.{Kept, told}
use Rattle.tars_frames.specs.Waiting.{IsCut, IsCutOff, IsAdded, TakesOne, Judges}
use Rattle.tars_frames.proofs.Readings.{joined-append, all-append, carried, packets_are, rest_is}
use Rattle.tars_frames.proofs.BadLengths.{refused_by_rest}

-- whole packets stand between where they begin and where they end
pub packets_span : (bytes : List ℕ) (start end : ℕ) (packets : List (List ℕ)) → IsCut bytes start end packets
    → end ≡ start + length (joined packets)
packets_span bytes start end packets cut =
    let long = ap length cut.reading.bytes ∙ length-append (joined packets) (drop end bytes) in
    let left = length-drop start bytes in
    let after = length-drop end bytes in
    let before = cut.before in
    let within = cut.within in
    omega arith

-- the first packet goes
pub cut_next : (bytes packet : List ℕ) (start end : ℕ) (packets : List (List ℕ)) → IsCut bytes start end (packet ∷ packets)
    → IsCut bytes (start + length packet) end packets × (drop start bytes ≡ packet ++ drop (start + length packet) bytes)
cut_next bytes packet start end packets cut =
    let after = joined packets ++ drop end bytes in
    let all : drop start bytes ≡ packet ++ after = cut.reading.bytes ∙ append_assoc packet (joined packets) (drop end bytes) in
    let moved : drop (start + length packet) bytes ≡ after =
    sym (drop-drop (length packet) start bytes) ∙ ap (λ s. drop (length packet) s) all ∙ drop_at packet after (length packet) refl in
    let span = packets_span bytes start end (packet ∷ packets) cut in
    let long = length-append packet (joined packets) in (
      record {
        before = omega arith;
        within = cut.within;
        reading = record { bytes = moved; whole = cut.reading.whole.1; last = cut.reading.last };
      },
      all ∙ ap (λ s. packet ++ s) (sym moved),
    )

-- a piece comes, and the packets that get whole by it
pub cut_more : (bytes piece : List ℕ) (start end left : ℕ) (packets new : List (List ℕ)) → IsCut bytes start end packets
    → IsAdded (drop end (bytes ++ piece)) packets new left
    → IsCut (bytes ++ piece) start (length (bytes ++ piece) - left) new × (drop start (bytes ++ piece) ≡ drop start bytes ++ piece)
cut_more bytes piece start end left packets new cut added =
    let all = bytes ++ piece in
    let long = length-append bytes piece in
    let fresh = length-drop end all in
    let before = cut.before in
    let within = cut.within in
    let room = added.cut.within in
    let front : drop start all ≡ drop start bytes ++ piece = drop-append-le start bytes piece (omega arith) in
    let back : drop end all ≡ drop end bytes ++ piece = drop-append-le end bytes piece within in
    let last : drop (length (drop end all) - left) (drop end all) ≡ drop (length all - left) all =
    drop-drop (length (drop end all) - left) end all ∙ ap (λ n. drop n all) (omega arith) in
    let reading : IsReading LONGEST (drop end bytes ++ piece) added.packets (drop (length all - left) all) =
    subst (λ (s : List ℕ). IsReading LONGEST s added.packets (drop (length all - left) all)) back
    (subst (λ (s : List ℕ). IsReading LONGEST (drop end all) added.packets s) last added.cut.reading) in (
      record {
        before = omega arith;
        within = omega arith;
        reading = subst (λ (s : List ℕ). IsReading LONGEST s new (drop (length all - left) all)) (sym front)
            (subst (λ (ps : List (List ℕ)). IsReading LONGEST (drop start bytes ++ piece) ps (drop (length all - left) all)) (sym added.new_is)
            (carried LONGEST (drop start bytes) piece (drop end bytes) _ packets added.packets cut.reading reading));
      },
      front,
    )

-- what waits moves to the front
pub cut_moved : (bytes : List ℕ) (start end : ℕ) (packets : List (List ℕ)) → IsCut bytes start end packets
    → IsCut (drop start bytes) 0 (end - start) packets
cut_moved bytes start end packets cut =
    let before = cut.before in
    let within = cut.within in
    let long = length-drop start bytes in
    let last : drop (end - start) (drop start bytes) ≡ drop end bytes = drop-drop (end - start) start bytes ∙ ap (λ n. drop n bytes) (omega arith) in
    record {
      before = omega arith;
      within = omega arith;
      reading = subst (λ (s : List ℕ). IsReading LONGEST (drop start bytes) packets s) (sym last) cut.reading;
    }

-- packets that were cut off so far, and what is left
pub record IsCutSoFar (bytes : List ℕ) (packets : List (List ℕ)) (rest : List ℕ) : Type 0 where
  pub bytes_are : bytes ≡ joined packets ++ rest
  pub whole : AllByRecursion (IsPacket LONGEST) packets

pub cut_first : (bytes : List ℕ) (packets : List (List ℕ)) → packets ≡ [] → IsCutSoFar bytes packets bytes
cut_first bytes packets none = subst (λ (ps : List (List ℕ)). IsCutSoFar bytes ps bytes) (sym none) (record { bytes_are = refl; whole = tt })

cut_one : (bytes rest packet after : List ℕ) (packets : List (List ℕ)) → IsCutSoFar bytes packets rest → IsPacket LONGEST packet
    → rest ≡ packet ++ after → IsCutSoFar bytes (packets ++ packet ∷ []) after
cut_one bytes rest packet after packets cut p e = record {
  bytes_are = cut.bytes_are ∙ ap (λ s. joined packets ++ s) e ∙ sym (append_assoc (joined packets) packet after)
      ∙ ap (λ s. s ++ after) (sym (joined-append packets (packet ∷ []) ∙ ap (λ s. joined packets ++ s) (append-nil packet)));
  whole = all-append LONGEST packets (packet ∷ []) cut.whole (p, tt);
}

pub cut_added : (bytes rest packet after made : List ℕ) (packets new : List (List ℕ)) → IsCutSoFar bytes packets rest
    → IsPacket LONGEST packet → rest ≡ packet ++ after → made ≡ packet → new ≡ packets ++ made ∷ [] → IsCutSoFar bytes new after
cut_added bytes rest packet after made packets new cut p e f g =
    subst (λ (ps : List (List ℕ)). IsCutSoFar bytes ps after) (sym (g ∙ ap (λ (q : List ℕ). packets ++ q ∷ []) f))
    (cut_one bytes rest packet after packets cut p e)

pub shorter : (rest packet after : List ℕ) → IsPacket LONGEST packet → rest ≡ packet ++ after → length after < length rest
shorter rest packet after p e = let least = p.least in let long = ap length e ∙ length-append packet after in omega arith

pub cut_done : (bytes rest : List ℕ) (packets : List (List ℕ)) → IsCutSoFar bytes packets rest → HasNoPacket LONGEST rest
    → IsCutOff bytes packets (length rest)
cut_done bytes rest packets cut none =
    let long = ap length cut.bytes_are ∙ length-append (joined packets) rest in
    let left : drop (length bytes - length rest) bytes ≡ rest =
    ap (λ s. drop (length bytes - length rest) s) cut.bytes_are ∙ drop_at (joined packets) rest (length bytes - length rest) (omega arith) in
    record {
      within = omega arith;
      reading = record {
        bytes = cut.bytes_are ∙ ap (λ s. joined packets ++ s) (sym left);
        whole = cut.whole;
        last = subst (λ (s : List ℕ). HasNoPacket LONGEST s) (sym left) none;
      };
    }

-- the first packet goes, where the fields say so
pub cut_given : (bytes packet content : List ℕ) (start end : ℕ) (packets new : List (List ℕ)) → IsCut bytes start end packets
    → packets ≡ packet ∷ new → content ≡ packet → IsCut bytes (start + length content) end new
cut_given bytes packet content start end packets new cut e f =
    subst (λ (q : List ℕ). IsCut bytes (start + length q) end new) (sym f)
    (cut_next bytes packet start end new (subst (λ (ps : List (List ℕ)). IsCut bytes start end ps) e cut)).0

pub given_takes : (bytes packet content : List ℕ) (start end place : ℕ) (packets new : List (List ℕ)) (was now : Kept) → IsCut bytes start end packets
    → packets ≡ packet ∷ new → content ≡ packet → IsPacket LONGEST packet
    → record { rest = drop start bytes; place = place } ≡ was
    → now ≡ record { rest = drop (start + length content) bytes; place = told (place + length content) }
    → TakesOne LONGEST was now (Some packet)
given_takes bytes packet content start end place packets new was now cut e f p g h =
    let next = (cut_next bytes packet start end new (subst (λ (ps : List (List ℕ)). IsCut bytes start end ps) e cut)).1 in
    let same = ap length f in (
      p,
      sym (ap (λ (k : Kept). k.rest) g) ∙ next ∙ ap (λ n. packet ++ drop (start + n) bytes) (sym same) ∙ ap (λ (s : List ℕ). packet ++ s) (sym (ap (λ (k : Kept). k.rest) h)),
      ap (λ (k : Kept). k.place) h ∙ ap (λ n. told (place + n)) same ∙ ap (λ n. told (n + length packet)) (ap (λ (k : Kept). k.place) g),
    )

-- a piece comes, where the fields say so
pub cut_taken : (bytes piece all unread : List ℕ) (start end long left : ℕ) (packets new : List (List ℕ)) → IsCut bytes start end packets
    → all ≡ bytes ++ piece → unread ≡ drop end all → long ≡ length all → IsAdded unread packets new left → IsCut all start (long - left) new
cut_taken bytes piece all unread start end long left packets new cut e f g added =
    let here : IsAdded (drop end (bytes ++ piece)) packets new left =
    subst (λ (s : List ℕ). IsAdded s packets new left) (f ∙ ap (λ s. drop end s) e) added in
    subst (λ n. IsCut all start (n - left) new) (sym g)
    (subst (λ (s : List ℕ). IsCut s start (length s - left) new) (sym e)
    (cut_more bytes piece start end left packets new cut here).0)

-- what waits is judged by its unread bytes
pub waits_reads : (bytes unread : List ℕ) (start end place : ℕ) (packets : List (List ℕ)) (kept : Kept) → IsCut bytes start end packets
    → record { rest = drop start bytes; place = place } ≡ kept → unread ≡ drop end bytes → IsReading LONGEST kept.rest packets unread
waits_reads bytes unread start end place packets kept cut e f =
    subst (λ (s : List ℕ). IsReading LONGEST s packets unread) (ap (λ (k : Kept). k.rest) e)
    (subst (λ (s : List ℕ). IsReading LONGEST (drop start bytes) packets s) (sym f) cut.reading)

pub judged_bad : (bytes unread : List ℕ) (start end place at number : ℕ) (packets : List (List ℕ)) (kept : Kept) → IsCut bytes start end packets
    → record { rest = drop start bytes; place = place } ≡ kept → unread ≡ drop end bytes
    → LENGTH_BYTES ≤ length unread → number ≡ first_length unread → is_length LONGEST number ≡ false
    → at ≡ told (place + (end - start)) → Judges {T = ℕ} LONGEST kept (Err (BadLength at number))
judged_bad bytes unread start end place at number packets kept cut e f four said bad told_is =
    let reading = waits_reads bytes unread start end place packets kept cut e f in
    let span = packets_span bytes start end packets cut in
    let between : end - start ≡ length (joined packets) = omega arith in (
      refused_by_rest LONGEST kept.rest unread packets reading four (ap (λ n. is_length LONGEST n) (sym said) ∙ bad),
      told_is ∙ ap (λ n. told (place + n)) between ∙ ap (λ n. told (n + length (joined packets))) (ap (λ (k : Kept). k.place) e)
          ∙ ap (λ (ps : List (List ℕ)). told (kept.place + length (joined ps))) (sym (packets_are LONGEST kept.rest unread packets reading)),
      said ∙ ap first_length (sym (rest_is LONGEST kept.rest unread packets reading)),
    )
