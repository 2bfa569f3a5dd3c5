-- For the crates above. Each text has one list of tokens or one fault, and not both; which word is which keyword; and what
-- a text spells is its plain text, which is no longer than the text. The first is the public law `one_outcome`.
pub use Rattle.idl_lex.proofs.Lexing.Lexemes.TotalLaws.{some_outcome}
pub use Rattle.idl_lex.proofs.Lexing.Strings.TextOutcomes.{one_tokens, not_both, one_lex_fault}
pub use Rattle.idl_lex.proofs.Lexing.Words.WordLaws.{keyword_means, keyword_found, keyword_is}
pub use Rattle.idl_lex.proofs.Lexing.Strings.EscapeLaws.{text_read}
pub use Rattle.idl_lex.proofs.Lexing.Strings.EscapeLengths.{unescaped_length}
