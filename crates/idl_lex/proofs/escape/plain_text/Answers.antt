use Rattle.idl_lex.proofs.Lexing.Strings.EscapeLaws.{quotes_within, spells}
use Rattle.idl_lex.proofs.escape.plain_text.Goals as goal

pub between_quotes-requires : goal.between_quotes-requires
between_quotes-requires c = quotes_within c.args.word.now c.requires

pub returns-clause-spells : goal.returns-clause-spells
returns-clause-spells c = spells c.unescaped.result c.args.word.now c.between_quotes.result.now c.requires c.between_quotes.ensures c.unescaped.ensures
