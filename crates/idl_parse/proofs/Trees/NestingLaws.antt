-- The bound of nesting is a bound of the open `<`, and what a file's tokens say of its tree.
use Rattle.std.proofs.Common.{◌≡◌, ◌≤◌, ◌↔◌, ℕ, suc, List, [], ◌∷◌, ◌++◌, length, refl, sym, ap, ◌∙◌, subst, arith, append_assoc}
use Rattle.std.proofs.lemmas.List.{append-nil}
use Rattle.std.specs.List.{All}
use Rattle.idl_parse.specs.Depth.{opened, Shallow}
use Rattle.idl_parse.specs.Grammar.{EntryOf, IsFile}
use Rattle.idl_parse.specs.TreeSpans.{EntryIn}
use Rattle.idl_parse.specs.Rules.{Many, none, more}
use Rattle.idl_lex.specs.Spans.{AreSpans}
use Rattle.idl_lex.specs.Tokens.{Tokens}
use Rattle.idl_lex.specs.declared.token.Token.{Token}
use Rattle.idl_parse.specs.declared.tree.module.Entry.{Entry}
use Rattle.idl_parse.proofs.Parsing.Deriving.FileLaws.{nothing_follows}
use Rattle.idl_parse.proofs.Trees.FileWalks.{entries}
use Rattle.idl_parse.proofs.Parsing.Combining.Heads.{opened_append, shallow_append}
use Rattle.idl_parse.proofs.Parsing.Deriving.Productions.{entry}
use Rattle.idl_lex.proofs.Lexing.Lexemes.SpanLaws.{spans_are}
use Rattle.idl_parse.proofs.Trees.Walks.{TokensIn}

record Passed (n : ℕ) (ts rest : List Token) : Type 0 where
  prefix : List Token
  whole : ts ≡ prefix ++ rest
  shallow : Shallow (suc n) 0 prefix
  open_after : opened 0 prefix ≡ 0

passed : (n : ℕ) {ts rest : List Token} {es : List Entry} → Many (EntryOf (suc n)) ts es rest → Passed n ts rest
passed n none = record { prefix = []; whole = refl; shallow = tt; open_after = refl }
passed n (more {tokens = ts} {mid = mid} {rest = rest} {x = x} p ps) =
    let r = entry (suc (length ts)) n in
    let h = r.keeps ts x mid (omega arith) (r.complete ts x mid (omega arith) p (nothing_follows mid)) in
    let j = passed n ps in
    record {
      prefix = h.prefix ++ j.prefix;
      whole = h.whole ∙ ap (λ m. h.prefix ++ m) j.whole ∙ sym (append_assoc h.prefix j.prefix rest);
      shallow = shallow_append (suc n) 0 h.prefix j.prefix h.shallow (rw h.open_after j.shallow);
      open_after = opened_append 0 h.prefix j.prefix ∙ ap (λ o. opened o j.prefix) h.open_after ∙ j.open_after;
    }

file_shallow : (n : ℕ) (ts : List Token) (es : List Entry) → IsFile (suc n) ts es → Shallow (suc n) 0 ts
file_shallow n ts es file = let h = passed n file in subst (Shallow (suc n) 0) (sym (h.whole ∙ append-nil h.prefix)) h.shallow

file_bounded : (limit depth : ℕ) (ts : List Token) (es : List Entry) → IsFile depth ts es → Shallow limit 0 ts → IsFile limit ts es
file_bounded limit depth ts es file shallow =
    let h = (entries [] depth limit).walk ts es [] file in
    h.bounded (subst (Shallow limit 0) (h.whole ∙ append-nil h.prefix) shallow)

-- every `<` of a file is closed
pub file_closed : (depth : ℕ) (ts : List Token) (es : List Entry) → IsFile depth ts es → opened 0 ts ≡ 0
file_closed depth ts es file =
    let h = (entries [] depth 0).walk ts es [] file in
    ap (opened 0) (h.whole ∙ append-nil h.prefix) ∙ h.open_after

pub nested : (n : ℕ) (ts : List Token) (es : List Entry) → IsFile (suc n) ts es ↔ (((depth : ℕ) × IsFile (suc depth) ts es) × Shallow (suc n) 0 ts)
nested n ts es =
    (λ file. ((n, file), file_shallow n ts es file), λ both. file_bounded (suc n) (suc both.0.0) ts es both.0.1 both.1)

-- ---- spans

spans_within : (text : List ℕ) (at : ℕ) (ts : List Token) → AreSpans text at ts → at ≤ length text
spans_within text at [] spans = spans
spans_within text at (t ∷ ts) spans = omega (arith, spans.0, spans.1, spans_within text t.end ts spans.3)

spans_in : (text : List ℕ) (at : ℕ) (ts : List Token) → AreSpans text at ts → TokensIn text ts
spans_in text at [] spans = tt
spans_in text at (t ∷ ts) spans = ((spans.1, spans_within text t.end ts spans.3, spans.2), spans_in text t.end ts spans.3)

pub file_spans : (depth : ℕ) (text : List ℕ) (ts : List Token) (es : List Entry) → Tokens text ts → IsFile depth ts es → All (EntryIn text) es
file_spans depth text ts es are file =
    let h = (entries text depth 0).walk ts es [] file in
    h.placed (subst (TokensIn text) (h.whole ∙ append-nil h.prefix) (spans_in text 0 ts (spans_are text ts are)))
