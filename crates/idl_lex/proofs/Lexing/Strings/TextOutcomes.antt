-- A text has one outcome: one list of tokens, or one fault.
use Rattle.std.proofs.Common.{◌≡◌, ◌-◌, ℕ, [], List, length, refl, sym, ap, ◌∙◌, subst, arith, length-append}
use Rattle.idl_lex.specs.declared.token.Token.{Token}
use Rattle.idl_lex.specs.declared.lex_fault.LexWhy.{LexWhy}
use Rattle.idl_lex.specs.Tokens.{IsFault, Tokens, IsLexFault}
use Rattle.idl_lex.specs.Tokens.IsFault.{bad_byte, bad_escape, open_comment, open_text, bad_number}
use Rattle.idl_lex.proofs.Lexing.Lexemes.LexemeLaws.{form_some}
use Rattle.idl_lex.proofs.Lexing.Lexemes.ListLaws.{one_list, nil_ends, fault_ends}
use Rattle.idl_lex.proofs.Lexing.Lexemes.LexFaultLaws.{one_fault}

pub one_tokens : (text : List ℕ) (s t : List Token) → Tokens text s → Tokens text t → s ≡ t
one_tokens text s t a b = (one_list a b nil_ends nil_ends).0

-- a fault stands at bytes
nil_ends_fault : {from : List ℕ} {why : LexWhy} → IsFault [] from why → ⊥
nil_ends_fault (bad_byte some no_trivia no_token no_comment no_quote) = some refl
nil_ends_fault (bad_escape quote walk spoilt) = cc (quote)
nil_ends_fault (open_comment comment unclosed) = cc (comment)
nil_ends_fault (open_text quote walk cut) = cc (quote)
nil_ends_fault (bad_number {kind = k} {word = word} {rest = rest} is unsound) =
    absurd (omega (arith, ap length is.prefix, length-append word rest, form_some k word is.form))

pub not_both : (text : List ℕ) (tokens : List Token) (at : ℕ) (why : LexWhy) → Tokens text tokens → IsLexFault text at why → ⊥
not_both text tokens at why all fault =
    let same = (one_list all fault.before nil_ends (fault_ends fault.fault)).1 in
    nil_ends_fault (subst (λ (t : List ℕ). IsFault t fault.from why) (sym same) fault.fault)

pub one_lex_fault : (text : List ℕ) (a b : ℕ) (v w : LexWhy) → IsLexFault text a v → IsLexFault text b w → (a ≡ b) × (v ≡ w)
one_lex_fault text a b v w first second =
    let same = (one_list first.before second.before (fault_ends first.fault) (fault_ends second.fault)).1 in
    let one = one_fault first.fault (subst (λ (t : List ℕ). IsFault t second.from w) (sym same) second.fault) in
    (first.offset ∙ ap (λ (t : List ℕ). length text - length t) one.0 ∙ sym second.offset, one.1)
