-- Whole files: one entry after the other, to the end.
use Rattle.std.proofs.Common.{◌≡◌, ℕ, zero, suc, ◌<◌, true, Result, Ok, Err, List, [], ◌∷◌, ◌++◌, length, refl, sym, ap, ◌∙◌, arith, subst}
use Rattle.facts.specs.ResultSteps.{◌>>=◌}
use Rattle.facts.proofs.ResultLaws.{bind_gave, bind_same_after}
use Rattle.idl_parse.specs.Grammar.{EntryOf, IsFile}
use Rattle.idl_parse.specs.KindSteps.{holds}
use Rattle.idl_parse.specs.ReadSteps.{Stop, entry_at, file_in, file_at}
use Rattle.idl_parse.specs.Rules.{Many, none, more}
use Rattle.idl_lex.specs.declared.keyword.Keyword.TheVariants as words
use Rattle.idl_lex.specs.declared.kind.Kind.TheVariants as kinds
use Rattle.idl_lex.specs.declared.token.Token.{Token}
use Rattle.idl_parse.specs.declared.tree.module.Entry.{Entry}
use Rattle.idl_parse.proofs.Parsing.Combining.Heads.{then_ok, then_err}
use Rattle.idl_parse.specs.ReadSteps.{Shrinks}
use Rattle.idl_parse.proofs.Parsing.Deriving.Productions.{entry}
use Rattle.idl_parse.proofs.Parsing.Combining.Readers.{starts}
use Rattle.idl_parse.proofs.Parsing.Repeating.Until.{shrinks_by}

abbrev pub after_entry : (List Token → Result (List Entry) Stop) → Entry × List Token → Result (List Entry) Stop
after_entry again e = again e.1 >>= λ others. Ok (e.0 ∷ others)

pub entry_shrinks : (n : ℕ) → Shrinks (entry_at (suc n))
entry_shrinks n = shrinks_by (suc n) (suc n) 0 0 (kinds.Include ∷ kinds.Keyword words.Module ∷ []) [] (EntryOf (suc n)) entry_at (λ k. entry k n)

fuel_same : (n a b : ℕ) (ts : List Token) → length ts < a → length ts < b → file_in (suc n) a ts ≡ file_in (suc n) b ts
fuel_same n zero b ts lt lt' = absurd (omega arith)
fuel_same n (suc a) zero ts lt lt' = absurd (omega arith)
fuel_same n (suc a) (suc b) [] lt lt' = refl
fuel_same n (suc a) (suc b) (t ∷ ts) lt lt' =
    bind_same_after (entry_at (suc n) (t ∷ ts)) (after_entry (file_in (suc n) a)) (after_entry (file_in (suc n) b))
    (λ e is.
    let less : length e.1 < length (t ∷ ts) = entry_shrinks n (t ∷ ts) e.0 e.1 is in
    ap (λ r. r >>= λ others. Ok (e.0 ∷ others)) (fuel_same n a b e.1 (omega arith) (omega arith)))

pub file_nothing : (m : ℕ) → file_at m [] ≡ Ok []
unfolding file_at
file_nothing m = refl

pub file_turn : (n : ℕ) (t : Token) (ts : List Token) → file_at (suc n) (t ∷ ts) ≡ (entry_at (suc n) (t ∷ ts) >>= after_entry (file_at (suc n)))
unfolding file_at
file_turn n t ts =
    bind_same_after (entry_at (suc n) (t ∷ ts)) (after_entry (file_in (suc n) (length (t ∷ ts)))) (after_entry (λ rest. file_in (suc n) (suc (length rest)) rest))
    (λ e is.
    let less : length e.1 < length (t ∷ ts) = entry_shrinks n (t ∷ ts) e.0 e.1 is in
    ap (λ r. r >>= λ others. Ok (e.0 ∷ others)) (fuel_same n (length (t ∷ ts)) (suc (length e.1)) e.1 (omega arith) (omega arith)))

-- an entry, and what is after it
pub file_goes_on : (n : ℕ) (ts : List Token) (x : Entry) (mid : List Token) (r : Result (List Entry) Stop) → entry_at (suc n) ts ≡ Ok (x, mid) → (file_at (suc n) mid >>= λ others. Ok (x ∷ others)) ≡ r → file_at (suc n) ts ≡ r
file_goes_on n [] x mid r e f = let less : length mid < length {A = Token} [] = entry_shrinks n [] x mid e in absurd (omega arith)
file_goes_on n (t ∷ ts) x mid r e f = file_turn n t ts ∙ then_ok (entry_at (suc n) (t ∷ ts)) (after_entry (file_at (suc n))) (x, mid) e ∙ f

pub file_ends : (n : ℕ) (ts : List Token) (x : Entry) → entry_at (suc n) ts ≡ Ok (x, []) → file_at (suc n) ts ≡ Ok (x ∷ [])
file_ends n ts x e = file_goes_on n ts x [] (Ok (x ∷ [])) e (rw (file_nothing (suc n)) refl)

pub file_halts : (n : ℕ) (prefix : List Token) (t : Token) (others : List Token) (s : Stop) → entry_at (suc n) (prefix ++ (t ∷ others)) ≡ Err s → file_at (suc n) (prefix ++ (t ∷ others)) ≡ Err s
file_halts n [] t others s e = file_turn n t others ∙ then_err (entry_at (suc n) (t ∷ others)) (after_entry (file_at (suc n))) s e
file_halts n (u ∷ prefix) t others s e = file_turn n u (prefix ++ (t ∷ others)) ∙ then_err (entry_at (suc n) ((u ∷ prefix) ++ (t ∷ others))) (after_entry (file_at (suc n))) s e

-- ---- yes

files_same : {x : Entry} {xs es : List Entry} → x ∷ xs ≡ es → es ≡ x ∷ xs
files_same e = sym e

abbrev pub some_entries : List Entry → Result (List Entry) Stop
some_entries es = Ok es

pub entries_of : {es fs : List Entry} → some_entries es ≡ some_entries fs → es ≡ fs
entries_of {es = es} e = ap (entries_or es) e
  where
    entries_or : List Entry → Result (List Entry) Stop → List Entry
    entries_or d (Ok es) = es
    entries_or d (Err s) = d

abbrev stopped_by : Stop → Result (List Entry) Stop
stopped_by s = Err s

never : (es : List Entry) (s : Stop) → some_entries es ≡ stopped_by s → ⊥
never es s e = cc

pub not_both : {r : Result (List Entry) Stop} {es : List Entry} {s : Stop} → r ≡ Ok es → r ≡ Err s → ⊥
not_both {es = es} {s = s} read failed = never es s (sym read ∙ failed)

sound_within : (k n : ℕ) (ts : List Token) (es : List Entry) → length ts < k → file_at (suc n) ts ≡ Ok es → IsFile (suc n) ts es
sound_within zero n ts es lt e = absurd (omega arith)
sound_within (suc k) n [] es lt e = let q : [] ≡ es = entries_of (sym (file_nothing (suc n)) ∙ e) in subst (IsFile (suc n) []) q none
sound_within (suc k) n (t ∷ ts) es lt e =
    let p = bind_gave (entry_at (suc n) (t ∷ ts)) (after_entry (file_at (suc n))) es (sym (file_turn n t ts) ∙ e) in
    let q = bind_gave (file_at (suc n) p.0.1) (λ others. Ok (p.0.0 ∷ others)) es p.2 in
    let less : length p.0.1 < length (t ∷ ts) = entry_shrinks n (t ∷ ts) p.0.0 p.0.1 p.1 in
    let first = (entry (suc k) n).sound (t ∷ ts) p.0.0 p.0.1 lt p.1 in
    let others = sound_within k n p.0.1 q.0 (omega arith) q.1 in
    subst (IsFile (suc n) (t ∷ ts)) (entries_of q.2) (more first others)

pub file_sound : (n : ℕ) (ts : List Token) (es : List Entry) → file_at (suc n) ts ≡ Ok es → IsFile (suc n) ts es
file_sound n ts es e = sound_within (suc (length ts)) n ts es (omega arith) e

pub nothing_follows : (ts : List Token) → starts [] ts ≡ true → ⊥
unfolding holds
nothing_follows [] st = cc
nothing_follows (t ∷ ts) st = cc

complete_to : (n : ℕ) {ts : List Token} {es : List Entry} {end : List Token} → Many (EntryOf (suc n)) ts es end → end ≡ [] → file_at (suc n) ts ≡ Ok es
complete_to n none is = rw is (file_nothing (suc n))
complete_to n (more {tokens = ts} {mid = mid} {x = x} {xs = xs} p many) is =
    file_goes_on n ts x mid (Ok (x ∷ xs))
    ((entry (suc (length ts)) n).complete ts x mid (omega arith) p (nothing_follows mid))
    (rw (complete_to n many is) refl)

pub file_complete : (n : ℕ) (ts : List Token) (es : List Entry) → IsFile (suc n) ts es → file_at (suc n) ts ≡ Ok es
file_complete n ts es p = complete_to n p refl
