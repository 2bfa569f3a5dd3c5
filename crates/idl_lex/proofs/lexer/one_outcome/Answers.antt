use Rattle.idl_lex.proofs.Lexing.Lexemes.SpanLaws.{spans_are}
use Rattle.idl_lex.proofs.Lexing.Strings.TextLaws.{one_spelling}
use Rattle.idl_lex.proofs.Lexing.Strings.TextOutcomes.{one_tokens, one_lex_fault, not_both}
use Rattle.idl_lex.proofs.Lexing.Lexemes.TotalLaws.{some_outcome}
use Rattle.idl_lex.proofs.lexer.one_outcome.Goals as goal

pub returns-clause-some : goal.returns-clause-some
returns-clause-some c = some_outcome

pub returns-clause-tokens : goal.returns-clause-tokens
returns-clause-tokens c = one_tokens

pub returns-clause-fault : goal.returns-clause-fault
returns-clause-fault c = one_lex_fault

pub returns-clause-not_both : goal.returns-clause-not_both
returns-clause-not_both c = not_both

pub returns-clause-spans : goal.returns-clause-spans
returns-clause-spans c = spans_are

pub returns-clause-spelling : goal.returns-clause-spelling
returns-clause-spelling c = one_spelling
