-- The loop over a file's entries: what it has so far, and what is left gives, are the whole.
use Rattle.std.proofs.Common.{◌≡◌, Result, Ok, Err, List, [], ◌∷◌, ◌++◌, refl, sym, ap, ◌∙◌, append_assoc}
use Rattle.std.proofs.lemmas.List.{append-nil}
use Rattle.facts.specs.ResultSteps.{◌>>=◌}
use Rattle.idl_parse.specs.ReadSteps.{Stop, Fails, entry_at, file_at}
use Rattle.idl_parse.specs.declared.parser.halt.Halt.{Halt}
use Rattle.idl_lex.specs.declared.token.Token.{Token}
use Rattle.idl_parse.specs.declared.tree.module.Entry.{Entry}
use Rattle.idl_parse.proofs.Parsing.Deriving.FileLaws.{after_entry, entry_shrinks, file_nothing, file_turn, file_goes_on}
use Rattle.idl_parse.proofs.Parsing.Combining.Heads.{then_err}
use Rattle.idl_parse.proofs.Parsing.Repeating.LoopSteps.{fails_first}
use Rattle.idl_parse.specs.ReadSteps.{Shrinks}

abbrev pub with_entries : List Entry → Result (List Entry) Stop → Result (List Entry) Stop
with_entries prefix read = read >>= λ others. Ok (prefix ++ others)

regroup : (prefix : List Entry) (x : Entry) (read : Result (List Entry) Stop) → with_entries prefix (read >>= λ others. Ok (x ∷ others)) ≡ with_entries (prefix ++ x ∷ []) read
regroup prefix x (Ok xs) = ap Ok (sym (append_assoc prefix (x ∷ []) xs))
regroup prefix x (Err s) = refl

pub entries_go_on : (prefix : List Entry) (ts : List Token) (x : Entry) (after : List Token) (total : Result (List Entry) Stop) → entry_at 16 ts ≡ Ok (x, after) → with_entries prefix (file_at 16 ts) ≡ total → with_entries (prefix ++ x ∷ []) (file_at 16 after) ≡ total
entries_go_on prefix ts x after total e so_far =
    let turn : file_at 16 ts ≡ (file_at 16 after >>= λ others. Ok (x ∷ others)) = file_goes_on 15 ts x after (file_at 16 after >>= λ others. Ok (x ∷ others)) e refl in
    sym (regroup prefix x (file_at 16 after)) ∙ ap (with_entries prefix) (sym turn) ∙ so_far

pub entries_fail : (e : Halt) (left : List Token) (prefix : List Entry) (ts : List Token) (total : Result (List Entry) Stop) → (ts ≡ [] → ⊥) → Fails e left (entry_at 16 ts) → with_entries prefix (file_at 16 ts) ≡ total → Fails e left total
entries_fail e left prefix [] total more h so_far = absurd (more refl)
entries_fail e left prefix (t ∷ ts) total more h so_far =
    fails_first e left (entry_at 16 (t ∷ ts)) total h (λ s failed.
    let turn : file_at 16 (t ∷ ts) ≡ Err s = file_turn 15 t ts ∙ then_err (entry_at 16 (t ∷ ts)) (after_entry (file_at 16)) s failed in
    sym so_far ∙ rw turn refl)

pub entries_end : (prefix : List Entry) (ts : List Token) (total : Result (List Entry) Stop) → ts ≡ [] → with_entries prefix (file_at 16 ts) ≡ total → total ≡ Ok prefix
entries_end prefix [] total none so_far =
    let turn : file_at 16 [] ≡ Ok [] = file_nothing 16 in
    sym so_far ∙ rw turn (ap Ok (append-nil prefix))
entries_end prefix (t ∷ ts) total none so_far = cc

pub entry_turn : Shrinks (entry_at 16)
entry_turn = entry_shrinks 15
