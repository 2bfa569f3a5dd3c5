-- Each turn of a loop takes a token.
use Rattle.std.proofs.Common.{[], ◌∷◌}
use Rattle.idl_parse.specs.Grammar.{Mark, Ident, Member, Func, Decl, Param}
use Rattle.idl_parse.specs.ReadSteps.{ended_at, member_at, func_at, decl_at, name_after_at, param_after_at}
use Rattle.idl_parse.specs.Rules.{Gives, ◌⟫◌}
use Rattle.idl_lex.specs.declared.keyword.Keyword.TheVariants as words
use Rattle.idl_lex.specs.declared.kind.Kind.TheVariants as kinds
use Rattle.idl_lex.specs.declared.sign.Sign.TheVariants.{Comma, Semicolon}
use Rattle.idl_parse.specs.ReadSteps.{Shrinks}
use Rattle.idl_parse.proofs.Parsing.Deriving.Productions.{ended_member, ended_func, ended_decl, decl_words, name_after, param_after}
use Rattle.idl_parse.proofs.Parsing.Deriving.TypeLaws.{type_words}
use Rattle.idl_parse.proofs.Parsing.Repeating.Until.{shrinks_by}

pub member_turn : Shrinks (ended_at (member_at 16))
member_turn = shrinks_by 16 16 0 0 (kinds.Number ∷ []) [] (Member 16 ⟫ λ x. Mark Semicolon ⟫ λ _. Gives x) (λ m. ended_at (member_at m)) (λ k. ended_member k 15)

pub func_turn : Shrinks (ended_at (func_at 16))
func_turn = shrinks_by 16 16 0 0 (kinds.Keyword words.Void ∷ type_words) [] (Func 16 ⟫ λ x. Mark Semicolon ⟫ λ _. Gives x) (λ m. ended_at (func_at m)) (λ k. ended_func k 15)

pub decl_turn : Shrinks (ended_at (decl_at 16))
decl_turn = shrinks_by 16 16 0 0 decl_words [] (Decl 16 ⟫ λ x. Mark Semicolon ⟫ λ _. Gives x) (λ m. ended_at (decl_at m)) (λ k. ended_decl k 15)

pub name_turn : Shrinks name_after_at
name_turn = shrinks_by 16 16 0 0 (kinds.Sign Comma ∷ []) [] (Mark Comma ⟫ λ _. Ident) (λ m. name_after_at) (λ k. name_after k 15)

pub param_turn : Shrinks (param_after_at 16)
param_turn = shrinks_by 16 16 0 0 (kinds.Sign Comma ∷ []) [] (Mark Comma ⟫ λ _. Param 16) param_after_at (λ k. param_after k 15)
