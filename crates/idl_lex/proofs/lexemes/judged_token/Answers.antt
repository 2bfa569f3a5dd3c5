use Rattle.std.proofs.Common.{sym, ◌∙◌}
use Rattle.idl_lex.specs.LexSteps.{candidate_of}
use Rattle.idl_lex.proofs.Lexing.Lexemes.LexemeLaws.{found_lexeme, found_bad, none_bad}
use Rattle.idl_lex.proofs.lexemes.judged_token.Goals as goal

pub returns-in-Some-clause-token : goal.returns-in-Some-clause-token
returns-in-Some-clause-token c =
    found_lexeme c.args.bytes.now (candidate_of c.in-Some.candidate) c.in-Some.ensures (sym c.is_sound.ensures ∙ c.if-is_sound.true)

pub returns-in-Some-2-clause-fault : goal.returns-in-Some-2-clause-fault
returns-in-Some-2-clause-fault c =
    found_bad c.args.bytes.now (candidate_of c.in-Some.candidate) c.in-Some.ensures (sym c.is_sound.ensures ∙ c.if-is_sound.false)

pub returns-in-None-clause-fault : goal.returns-in-None-clause-fault
returns-in-None-clause-fault c =
    none_bad c.args.bytes.now c.requires.some c.requires.no_trivia c.requires.no_comment c.requires.no_text c.in-None.ensures
