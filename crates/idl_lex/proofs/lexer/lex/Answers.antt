use Rattle.std.proofs.Common.{◌≡◌, ◌-◌, ℕ, List, length, Some, refl, sym, ◌∙◌, subst, arith}
use Rattle.std.proofs.Common.{true, eqb}
use Rattle.std.proofs.lemmas.Bool.{eqb-true}
use Rattle.std.proofs.lemmas.List.{nil_from_length}
use Rattle.idl_lex.specs.declared.token.Token.{Token}
use Rattle.idl_lex.specs.declared.kind.Kind.{Kind}
use Rattle.std.proofs.Common.{Option}
use Rattle.idl_lex.specs.Tokens.{AreLexemes, IsLexeme, Tokens, IsLexFault}
use Rattle.idl_lex.specs.Tokens.AreLexemes.{none}
use Rattle.idl_lex.proofs.Lexing.Lexemes.LexemeLaws.{lexeme_shorter}
use Rattle.idl_lex.proofs.Lexing.Lexemes.ListLaws.{lexemes_within, trivia_last, token_last}
use Rattle.idl_lex.proofs.Lexing.Lexemes.LexFaultLaws.{fault_within}
use Rattle.idl_lex.proofs.Lexing.Strings.TextOutcomes.{one_tokens, not_both, one_lex_fault}
use Rattle.idl_lex.proofs.lexer.lex.Goals as goal

pub lexemes-init : goal.lexemes-init
lexemes-init c =
    let text = c.args.text.now in
    subst (λ (tokens : List Token). AreLexemes (length text) text tokens text) (sym c.new-tokens.ensures) none

pub offset_of-requires-clause-within : goal.offset_of-requires-clause-within
offset_of-requires-clause-within c = omega (arith, fault_within c.in-Err.ensures.fault, lexemes_within c.lexemes.invariant)

pub returns-in-Err-clause-only : goal.returns-in-Err-clause-only
returns-in-Err-clause-only c tokens all =
    let offset = length c.args.text.now - length c.in-Err.field-0.from.now in
    let is : IsLexFault c.args.text.now offset c.in-Err.field-0.why =
    record { tokens = c.lexemes.tokens; rest = c.lexemes.rest.now; from = c.in-Err.field-0.from.now; before = c.lexemes.invariant; fault = c.in-Err.ensures.fault; offset = refl } in
    not_both c.args.text.now tokens offset c.in-Err.field-0.why all is

pub returns-in-Err-clause-refused : goal.returns-in-Err-clause-refused
returns-in-Err-clause-refused c at why other =
    let offset = length c.args.text.now - length c.in-Err.field-0.from.now in
    let is : IsLexFault c.args.text.now offset c.in-Err.field-0.why =
    record { tokens = c.lexemes.tokens; rest = c.lexemes.rest.now; from = c.in-Err.field-0.from.now; before = c.lexemes.invariant; fault = c.in-Err.ensures.fault; offset = refl } in
    let one = one_lex_fault c.args.text.now offset at c.in-Err.field-0.why why is other in
    (c.offset_of.ensures ∙ one.0, one.1)

pub offset_of-requires-in-Some-clause-within : goal.offset_of-requires-in-Some-clause-within
offset_of-requires-in-Some-clause-within c = lexemes_within c.lexemes.invariant

pub offset_of-requires-in-Some-2-clause-within : goal.offset_of-requires-in-Some-2-clause-within
offset_of-requires-in-Some-2-clause-within c = omega (arith, lexeme_shorter c.in-Ok.ensures.lexeme, lexemes_within c.lexemes.invariant)

pub lexemes-smaller-in_ok-push : goal.lexemes-smaller-in_ok-push
lexemes-smaller-in_ok-push c = lexeme_shorter c.in-Ok.ensures.lexeme

pub lexemes-preserved-in_ok-push : goal.lexemes-preserved-in_ok-push
lexemes-preserved-in_ok-push c =
    let text = c.args.text.now in
    let size = length text in
    let rest = c.lexemes.rest.now in
    let next = c.in-Ok.found.1.now in
    let lexeme : IsLexeme rest (Some c.in-Some.kind) next = subst (λ (k : Option Kind). IsLexeme rest k next) c.in-Some.is c.in-Ok.ensures.lexeme in
    let start : c.offset_of-in-Some.result ≡ size - length rest = c.offset_of-in-Some.ensures in
    let end : c.offset_of-in-Some-2.result ≡ size - length next = c.offset_of-in-Some-2.ensures in
    let pushed = c.in_ok-push.ensures.ok in
    subst (λ (tokens : List Token). AreLexemes size text tokens next) (cc) (token_last c.lexemes.invariant lexeme)

pub lexemes-smaller : goal.lexemes-smaller
lexemes-smaller c = lexeme_shorter c.in-Ok.ensures.lexeme

pub lexemes-preserved : goal.lexemes-preserved
lexemes-preserved c =
    trivia_last c.lexemes.invariant (subst (λ (k : Option Kind). IsLexeme c.lexemes.rest.now k c.in-Ok.found.1.now) c.in_default.is c.in-Ok.ensures.lexeme)

-- no bytes are left
all_read : (text rest : List ℕ) (tokens : List Token) → true ≡ eqb (length rest) 0 → AreLexemes (length text) text tokens rest → Tokens text tokens
all_read text rest tokens empty are =
    subst (λ (t : List ℕ). AreLexemes (length text) text tokens t) (nil_from_length rest (eqb-true (length rest) 0 (sym empty))) are

pub returns-clause-only : goal.returns-clause-only
returns-clause-only c tokens all =
    one_tokens c.args.text.now c.lexemes.tokens tokens (all_read c.args.text.now c.lexemes.rest.now c.lexemes.tokens c.lexemes-test.ensures c.lexemes.invariant) all

pub returns-clause-refused : goal.returns-clause-refused
returns-clause-refused c at why fault =
    not_both c.args.text.now c.lexemes.tokens at why (all_read c.args.text.now c.lexemes.rest.now c.lexemes.tokens c.lexemes-test.ensures c.lexemes.invariant) fault
