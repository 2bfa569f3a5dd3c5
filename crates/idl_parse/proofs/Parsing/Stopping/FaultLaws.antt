-- Where reading stops is the fault that the tokens have.
use Rattle.std.proofs.Common.{◌≡◌, ℕ, zero, suc, ◌+◌, ◌-◌, ◌<◌, ◌≤◌, Result, Ok, Err, List, [], ◌∷◌, ◌++◌, length, take, drop, refl, sym, ap, ◌∙◌, arith, inl, inr, append_assoc, subst, length-append}
use Rattle.std.proofs.lemmas.List.{append-nil}
use Rattle.std.proofs.Math.Seq.{take-append_seam, drop-append_seam, take-append-add}
use Rattle.longest_prefix.specs.Prefixes.{Begins}
use Rattle.facts.specs.ResultSteps.{◌>>=◌}
use Rattle.facts.proofs.ResultLaws.{bind_gave}
use Rattle.idl_parse.specs.Depth.{opened, Shallow}
use Rattle.idl_parse.specs.Faults.{AnyFile, UnexpectedAt, TooDeepAt, StopsAt}
use Rattle.idl_parse.specs.Grammar.{IsFile}
use Rattle.idl_parse.specs.ReadSteps.{Stop, entry_at, file_at}
use Rattle.idl_parse.specs.declared.parse_fault.ParseWhy.{ParseWhy}
use Rattle.idl_parse.specs.declared.parse_fault.ParseWhy.TheVariants.{Unexpected, TooDeep}
use Rattle.idl_lex.specs.declared.token.Token.{Token}
use Rattle.idl_parse.specs.declared.tree.module.Entry.{Entry}
use Rattle.idl_lex.specs.declared.keyword.Keyword.TheVariants as words
use Rattle.idl_lex.specs.declared.kind.Kind.TheVariants as kinds
use Rattle.idl_parse.proofs.Parsing.Repeating.Until.{item_shape}
use Rattle.idl_parse.proofs.Parsing.Deriving.FileLaws.{after_entry, entry_shrinks, file_turn, file_nothing, file_goes_on, file_ends, file_halts, file_sound, file_complete, nothing_follows}
use Rattle.idl_parse.proofs.Parsing.Combining.Heads.{bind_err, prefixes_join, opened_append, shallow_append}
use Rattle.idl_parse.proofs.Parsing.Deriving.Productions.{entry}
use Rattle.idl_parse.proofs.Parsing.Combining.Readers.{halted, too_deep, Kept}

record FileStays (n : ℕ) (ts left : List Token) : Type 0 where
  prefix : List Token
  whole : ts ≡ prefix ++ left
  more : List Token
  value : List Entry
  fills : (m : ℕ) → n < m → file_at m (prefix ++ more) ≡ Ok value
  stuck : (t : Token) (l : List Token) → left ≡ t ∷ l → (m : ℕ) → n ≤ m → (others : List Token) → file_at m (prefix ++ (t ∷ others)) ≡ halted (t ∷ others)
  shallow : Shallow n 0 prefix

record FileDeep (n : ℕ) (ts left : List Token) : Type 0 where
  prefix : List Token
  next : Token
  others : List Token
  whole : ts ≡ prefix ++ left
  is : left ≡ next ∷ others
  more : List Token
  value : List Entry
  fills : (m : ℕ) → suc n < m → file_at m (prefix ++ (next ∷ more)) ≡ Ok value
  shallow : Shallow n 0 prefix
  open_after : opened 0 prefix ≡ n

-- a reader at a room that is not nothing
above : (n m : ℕ) → suc n ≤ m → (p : ℕ) × (m ≡ suc p)
above n zero le = absurd (omega arith)
above n (suc m) le = (m, refl)

file_on : (n m : ℕ) (ts : List Token) (x : Entry) (mid : List Token) (r : Result (List Entry) Stop) → suc n ≤ m → entry_at m ts ≡ Ok (x, mid) → (file_at m mid >>= λ others. Ok (x ∷ others)) ≡ r → file_at m ts ≡ r
file_on n zero ts x mid r le e f = absurd (omega arith)
file_on n (suc m) ts x mid r le e f = file_goes_on m ts x mid r e f

file_end : (n m : ℕ) (ts : List Token) (x : Entry) → suc n ≤ m → entry_at m ts ≡ Ok (x, []) → file_at m ts ≡ Ok (x ∷ [])
file_end n zero ts x le e = absurd (omega arith)
file_end n (suc m) ts x le e = file_ends m ts x e

file_halt : (n m : ℕ) (prefix : List Token) (t : Token) (others : List Token) (s : Stop) → suc n ≤ m → entry_at m (prefix ++ (t ∷ others)) ≡ Err s → file_at m (prefix ++ (t ∷ others)) ≡ Err s
file_halt n zero prefix t others s le e = absurd (omega arith)
file_halt n (suc m) prefix t others s le e = file_halts m prefix t others s e

stays_first : (n : ℕ) (ts left : List Token) → entry_at (suc n) ts ≡ halted left → FileStays (suc n) ts left
stays_first n ts left e =
    let h = (entry (suc (length ts)) n).stays ts left (omega arith) e in
    record {
      prefix = h.prefix;
      whole = h.whole;
      more = h.more;
      value = h.value ∷ [];
      fills = λ m lt. file_end n m (h.prefix ++ h.more) h.value (omega arith) (ap (λ z. entry_at m (h.prefix ++ z)) (sym (append-nil h.more)) ∙ h.fills m lt [] (nothing_follows []));
      stuck = λ t l is m le others. file_halt n m h.prefix t others (record { left = t ∷ others; why = Unexpected }) le (h.stuck t l is m le others);
      shallow = h.shallow;
    }

stays_second : (n : ℕ) (ts left : List Token) (x : Entry) (mid : List Token) → entry_at (suc n) ts ≡ Ok (x, mid) → FileStays (suc n) mid left → FileStays (suc n) ts left
stays_second n ts left x mid e j =
    let h = (entry (suc (length ts)) n).keeps ts x mid (omega arith) e in
    record {
      prefix = h.prefix ++ j.prefix;
      whole = prefixes_join h.prefix j.prefix mid left ts h.whole j.whole;
      more = j.more;
      value = x ∷ j.value;
      fills = λ m lt.
          rw (append_assoc h.prefix j.prefix j.more)
          (file_on n m (h.prefix ++ (j.prefix ++ j.more)) x (j.prefix ++ j.more) (Ok (x ∷ j.value)) (omega arith)
          (h.again m (omega arith) (j.prefix ++ j.more) (λ st. absurd (nothing_follows (j.prefix ++ j.more) st)))
          (rw (j.fills m lt) refl));
      stuck = λ t l is m le others.
          rw (append_assoc h.prefix j.prefix (t ∷ others))
          (file_on n m (h.prefix ++ (j.prefix ++ (t ∷ others))) x (j.prefix ++ (t ∷ others)) (halted (t ∷ others)) le
          (h.again m le (j.prefix ++ (t ∷ others)) (λ st. absurd (nothing_follows (j.prefix ++ (t ∷ others)) st)))
          (rw (j.stuck t l is m le others) refl));
      shallow = shallow_append (suc n) 0 h.prefix j.prefix h.shallow (rw h.open_after j.shallow);
    }

abbrev ok_entries : List Entry → Result (List Entry) Stop
ok_entries es = Ok es

abbrev failed : Stop → Result (List Entry) Stop
failed s = Err s

never : (es : List Entry) (s : Stop) → ok_entries es ≡ failed s → ⊥
never es s e = cc

failed_first : (r : Result (List Entry) Stop) (x : Entry) (s : Stop) → (r >>= λ others. ok_entries (x ∷ others)) ≡ Err s → r ≡ Err s
failed_first (Ok es) x s e = absurd (never (x ∷ es) s e)
failed_first (Err t) x s e = e

-- by the entries, one after the other
stops_within : (why : ParseWhy) (Stops : ℕ → List Token → List Token → Type 0)
    → ((n : ℕ) (ts left : List Token) → entry_at (suc n) ts ≡ Err (record { left = left; why = why }) → Stops (suc n) ts left)
    → ((n : ℕ) (ts left : List Token) (x : Entry) (mid : List Token) → entry_at (suc n) ts ≡ Ok (x, mid) → Stops (suc n) mid left → Stops (suc n) ts left)
    → (k n : ℕ) (ts left : List Token) → length ts < k → file_at (suc n) ts ≡ Err (record { left = left; why = why }) → Stops (suc n) ts left
stops_within why Stops first second zero n ts left lt e = absurd (omega arith)
stops_within why Stops first second (suc k) n [] left lt e = absurd (never [] (record { left = left; why = why }) (sym (file_nothing (suc n)) ∙ e))
stops_within why Stops first second (suc k) n (t ∷ ts) left lt e =
    elim (bind_err (entry_at (suc n) (t ∷ ts)) (after_entry (file_at (suc n))) (record { left = left; why = why }) (sym (file_turn n t ts) ∙ e)) [
      | inl f ↦ first n (t ∷ ts) left f
      | inr p ↦
          let less : length p.0.1 < length (t ∷ ts) = entry_shrinks n (t ∷ ts) p.0.0 p.0.1 p.1 in
          second n (t ∷ ts) left p.0.0 p.0.1 p.1 (stops_within why Stops first second k n p.0.1 left (omega arith) (failed_first (file_at (suc n) p.0.1) p.0.0 (record { left = left; why = why }) p.2))
    ]

deep_first : (n : ℕ) (ts left : List Token) → entry_at (suc n) ts ≡ too_deep left → FileDeep (suc n) ts left
deep_first n ts left e =
    let h = (entry (suc (length ts)) n).deep ts left (omega arith) e in
    record {
      prefix = h.prefix;
      next = h.next;
      others = h.others;
      whole = h.whole;
      is = h.is;
      more = h.more;
      value = h.value ∷ [];
      fills = λ m lt. file_end n m (h.prefix ++ (h.next ∷ h.more)) h.value (omega arith) (ap (λ z. entry_at m (h.prefix ++ (h.next ∷ z))) (sym (append-nil h.more)) ∙ h.fills m lt [] (nothing_follows []));
      shallow = h.shallow;
      open_after = h.open_after;
    }

deep_second : (n : ℕ) (ts left : List Token) (x : Entry) (mid : List Token) → entry_at (suc n) ts ≡ Ok (x, mid) → FileDeep (suc n) mid left → FileDeep (suc n) ts left
deep_second n ts left x mid e j =
    let h = (entry (suc (length ts)) n).keeps ts x mid (omega arith) e in
    record {
      prefix = h.prefix ++ j.prefix;
      next = j.next;
      others = j.others;
      whole = prefixes_join h.prefix j.prefix mid left ts h.whole j.whole;
      is = j.is;
      more = j.more;
      value = x ∷ j.value;
      fills = λ m lt.
          rw (append_assoc h.prefix j.prefix (j.next ∷ j.more))
          (file_on n m (h.prefix ++ (j.prefix ++ (j.next ∷ j.more))) x (j.prefix ++ (j.next ∷ j.more)) (Ok (x ∷ j.value)) (omega arith)
          (h.again m (omega arith) (j.prefix ++ (j.next ∷ j.more)) (λ st. absurd (nothing_follows (j.prefix ++ (j.next ∷ j.more)) st)))
          (rw (j.fills m lt) refl));
      shallow = shallow_append (suc n) 0 h.prefix j.prefix h.shallow (rw h.open_after j.shallow);
      open_after = opened_append 0 h.prefix j.prefix ∙ ap (λ o. opened o j.prefix) h.open_after ∙ j.open_after;
    }

-- ---- more room changes nothing that was read

entry_again : (n m : ℕ) (ts : List Token) (x : Entry) (mid : List Token) → suc n ≤ m → Kept (suc n) (suc n) 0 0 (item_shape (kinds.Include ∷ kinds.Keyword words.Module ∷ []) []) entry_at ts x mid → entry_at m ts ≡ Ok (x, mid)
entry_again n m ts x mid le h =
    let again : entry_at m (h.prefix ++ mid) ≡ Ok (x, mid) = h.again m le mid (λ st. refl) in
    ap (entry_at m) h.whole ∙ again

more_room : (k n m : ℕ) (ts : List Token) (es : List Entry) → length ts < k → suc n ≤ m → file_at (suc n) ts ≡ Ok es → file_at m ts ≡ Ok es
more_room zero n m ts es lt le e = absurd (omega arith)
more_room (suc k) n m [] es lt le e = file_nothing m ∙ sym (file_nothing (suc n)) ∙ e
more_room (suc k) n m (t ∷ ts) es lt le e =
    let p = bind_gave (entry_at (suc n) (t ∷ ts)) (after_entry (file_at (suc n))) es (sym (file_turn n t ts) ∙ e) in
    let q = bind_gave (file_at (suc n) p.0.1) (λ others. Ok (p.0.0 ∷ others)) es p.2 in
    let less : length p.0.1 < length (t ∷ ts) = entry_shrinks n (t ∷ ts) p.0.0 p.0.1 p.1 in
    let h = (entry (suc (length (t ∷ ts))) n).keeps (t ∷ ts) p.0.0 p.0.1 (omega arith) p.1 in
    let first = entry_again n m (t ∷ ts) p.0.0 p.0.1 le h in
    file_on n m (t ∷ ts) p.0.0 p.0.1 (Ok es) le first (rw (more_room k n m p.0.1 q.0 (omega arith) le q.1) q.2)

-- ---- the fault

not_a_file : (n : ℕ) (prefix : List Token) (t : Token) → ((m : ℕ) → n ≤ m → (others : List Token) → file_at m (prefix ++ (t ∷ others)) ≡ halted (t ∷ others)) → (others : List Token) → AnyFile (prefix ++ (t ∷ others)) → ⊥
not_a_file n prefix t stuck others (depth, es, file) =
    let ts = prefix ++ (t ∷ others) in
    let read = more_room (suc (length ts)) depth (suc depth + n) ts es (omega arith) (omega arith) (file_complete depth ts es file) in
    never es (record { left = t ∷ others; why = Unexpected }) (sym read ∙ stuck (suc depth + n) (omega arith) others)

longest : (n : ℕ) (prefix left : List Token) → ((t : Token) (l : List Token) → left ≡ t ∷ l → (m : ℕ) → n ≤ m → (others : List Token) → file_at m (prefix ++ (t ∷ others)) ≡ halted (t ∷ others)) → (d : ℕ) → length prefix + suc d ≤ length (prefix ++ left) → Begins AnyFile (take (length prefix + suc d) (prefix ++ left)) → ⊥
longest n prefix [] stuck d within begins = omega (arith, length-append prefix [])
longest n prefix (t ∷ l) stuck d within begins =
    let cut : take (length prefix + suc d) (prefix ++ (t ∷ l)) ≡ prefix ++ (t ∷ take d l) = take-append-add prefix (t ∷ l) (suc d) in
    let whole : take (length prefix + suc d) (prefix ++ (t ∷ l)) ++ begins.more ≡ prefix ++ (t ∷ (take d l ++ begins.more)) = ap (λ z. z ++ begins.more) cut ∙ append_assoc prefix (t ∷ take d l) begins.more in
    not_a_file n prefix t (stuck t l refl) (take d l ++ begins.more) (subst AnyFile whole begins.word)

unexpected_at : (n : ℕ) (prefix left : List Token) (more : List Token) (value : List Entry) → file_at (suc (suc n)) (prefix ++ more) ≡ Ok value → ((t : Token) (l : List Token) → left ≡ t ∷ l → (m : ℕ) → suc n ≤ m → (others : List Token) → file_at m (prefix ++ (t ∷ others)) ≡ halted (t ∷ others)) → Shallow (suc n) 0 prefix → UnexpectedAt (suc n) (prefix ++ left) (length prefix)
unexpected_at n prefix left more value fills stuck shallow = record {
  longest = record {
    within = omega (arith, length-append prefix left);
    prefix = rw (take-append_seam prefix left) (record { more = more; word = (suc n, value, file_sound (suc n) (prefix ++ more) value fills) });
    longest = λ j above within begins.
        let e : j ≡ length prefix + suc (j - suc (length prefix)) = omega arith in
        longest (suc n) prefix left stuck (j - suc (length prefix)) (subst (λ i. i ≤ length (prefix ++ left)) e within) (subst (λ i. Begins AnyFile (take i (prefix ++ left))) e begins);
  };
  shallow = rw (take-append_seam prefix left) shallow;
}

too_deep_at : (n : ℕ) (prefix : List Token) (next : Token) (others more : List Token) (value : List Entry) → file_at (suc (suc (suc n))) (prefix ++ (next ∷ more)) ≡ Ok value → Shallow (suc n) 0 prefix → opened 0 prefix ≡ suc n → TooDeepAt (suc n) (prefix ++ (next ∷ others)) (length prefix)
too_deep_at n prefix next others more value fills shallow nested =
    let one_more : suc (length prefix) ≡ length prefix + 1 = omega arith in
    let cut : take (suc (length prefix)) (prefix ++ (next ∷ others)) ≡ prefix ++ (next ∷ []) = ap (λ i. take i (prefix ++ (next ∷ others))) one_more ∙ take-append-add prefix (next ∷ others) 1 in
    record {
      within = omega (arith, length-append prefix (next ∷ others));
      goes_on = rw cut (record { more = more; word = (suc (suc n), value, subst (λ ts. IsFile (suc (suc (suc n))) ts value) (sym (append_assoc prefix (next ∷ []) more)) (file_sound (suc (suc n)) (prefix ++ (next ∷ more)) value fills)) });
      shallow = rw (take-append_seam prefix (next ∷ others)) shallow;
      nested = rw (take-append_seam prefix (next ∷ others)) nested;
    }

pub file_fault : (n : ℕ) (ts left : List Token) (why : ParseWhy) → file_at (suc n) ts ≡ Err (record { left = left; why = why }) → (index : ℕ) × (drop index ts ≡ left) × StopsAt (suc n) ts index why
file_fault n ts left Unexpected e =
    let h = stops_within Unexpected FileStays stays_first stays_second (suc (length ts)) n ts left (omega arith) e in (
      length h.prefix,
      ap (drop (length h.prefix)) h.whole ∙ drop-append_seam h.prefix left,
      subst (λ us. UnexpectedAt (suc n) us (length h.prefix)) (sym h.whole) (unexpected_at n h.prefix left h.more h.value (h.fills (suc (suc n)) (omega arith)) h.stuck h.shallow),
    )
file_fault n ts left TooDeep e =
    let h = stops_within TooDeep FileDeep deep_first deep_second (suc (length ts)) n ts left (omega arith) e in (
      length h.prefix,
      ap (drop (length h.prefix)) h.whole ∙ drop-append_seam h.prefix left,
      subst (λ us. TooDeepAt (suc n) us (length h.prefix)) (ap (λ l. h.prefix ++ l) (sym h.is) ∙ sym h.whole) (too_deep_at n h.prefix h.next h.others h.more h.value (h.fills (suc (suc (suc n))) (omega arith)) h.shallow h.open_after),
    )
