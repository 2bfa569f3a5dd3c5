-- The pieces of functions derive trees that say them.
use Rattle.std.proofs.Common.{◌≡◌, ◌≤◌, ℕ, Option, Some, None, List, [], ◌∷◌, ◌++◌, subst, append_assoc}
use Rattle.std.specs.List.{AllByRecursion}
use Rattle.tars_model.specs.Declarations.{Declared}
use Rattle.tars_model.specs.Names.{IsName}
use Rattle.tars_model.specs.Schemas.{IsTypeIn, IsReturned, FuncFits}
use Rattle.tars_model.specs.declared.func_desc.FuncDesc.{FuncDesc}
use Rattle.tars_model.specs.declared.func_desc.Param.{Param}
use Rattle.tars_model.specs.declared.ty.Ty.{Ty}
use Rattle.idl_parse.specs.Grammar as grammar
use Rattle.idl_parse.specs.Grammar.{Mark}
use Rattle.idl_parse.specs.Rules.{◌⟫◌}
use Rattle.idl_lex.specs.declared.sign.Sign.TheVariants as signs
use Rattle.canonical_tree.specs.Pieces.{Piece, mark, ident, space, line_end, deep_indent, param_pieces, params_pieces, return_pieces, func_pieces}
use Rattle.canonical_tree.specs.Says.{Pairwise, ParamSays, ReturnSays, FuncSays}
use Rattle.canonical_tree.proofs.DeclFits.{IsPrefixOf}
use Rattle.canonical_tree.proofs.Deriving.Kit.{Derives, Ended, done, past, one, spanned, part, last, ended, in_left, in_right, many}
use Rattle.canonical_tree.proofs.Lists.{each_of_both}
use Rattle.canonical_tree.proofs.Deriving.Members.{param_derives}
use Rattle.canonical_tree.proofs.Deriving.Types.{IsNamed, type_derives}
use Rattle.canonical_tree.proofs.Deriving.Words.{name_says}

-- a parameter that keeps the rules
record ParamFits (d : Declared) (p : Param) : Type 0 where
  name : IsName p.name
  ty : IsTypeIn d p.ty

params_fit : (e : Declared) (f : FuncDesc) → FuncFits e f → AllByRecursion (ParamFits e) f.params
params_fit e f fits =
    each_of_both (λ (p : Param). IsName p.name) (λ (p : Param). IsTypeIn e p.ty) (ParamFits e) (λ p name ty. record { name = name; ty = ty }) f.params fits.names fits.types

-- over what is declared, in a module; e was declared before
module _ (text : List ℕ) (d e : Declared) (home : List ℕ) (room : ℕ) (enough : 16 ≤ room) (named : IsNamed d) (before : IsPrefixOf e d) where
  param : (p : Param) → ParamFits e p → Derives text (grammar.Param room) (ParamSays text d home p) (param_pieces d home p)
  param p fits = param_derives text d e home room enough named before p fits.name fits.ty

  next_param : (p : Param) → ParamFits e p → Derives text (Mark signs.Comma ⟫ λ _. grammar.Param room) (ParamSays text d home p) (mark signs.Comma ∷ space ∷ param_pieces d home p)
  next_param p fits = one (λ _ _ _. past (param p fits))

  params : (ps : List Param) → AllByRecursion (ParamFits e) ps → Derives text (grammar.Params room) (Pairwise (ParamSays text d home) ps) (params_pieces d home ps)
  params [] all = in_right (done tt)
  params (p ∷ ps) all =
      in_left (part (param p all.0) (λ tree said.
      last (many (ParamFits e) (ParamSays text d home) (λ p. mark signs.Comma ∷ space ∷ param_pieces d home p) next_param ps all.1) (λ trees others.
      done (said, others))))

  ret : (t : Option Ty) → IsReturned e t → Derives text (grammar.Ret room) (ReturnSays text d home t) (return_pieces d home t)
  ret None is = in_left (one (λ _ _ _. done tt))
  ret (Some t) is = in_right (last (type_derives text d e home room t enough named before is) (λ tree said. done said))

  func_core : (f : FuncDesc) → FuncFits e f → Derives text (grammar.Func room) (FuncSays text d home f)
      (deep_indent ∷ (return_pieces d home f.ret ++ (space ∷ ident f.name ∷ mark signs.OpenParen ∷ (params_pieces d home f.params ++ (mark signs.CloseParen ∷ [])))))
  func_core f fits =
      past (part (ret f.ret fits.ret) (λ ret_tree ret_said. past (spanned (λ name is_name. one (λ _ _ _. part (params f.params (params_fit e f fits)) (λ trees said. one (λ _ _ _.
      done (record { ret = ret_said; name = name_says fits.name is_name; params = said }))))))))

  -- a function, and the semicolon after it
  pub func_derives : (f : FuncDesc) → FuncFits e f → Derives text (Ended (grammar.Func room)) (FuncSays text d home f) (func_pieces d home f)
  unfolding func_pieces
  func_derives f fits =
      subst (Derives text (Ended (grammar.Func room)) (FuncSays text d home f)) (semicolon_last (return_pieces d home f.ret) f.name (params_pieces d home f.params)) (ended (func_core f fits))
    where
      semicolon_last : (ret : List Piece) (name : List ℕ) (params : List Piece) →
          (deep_indent ∷ (ret ++ (space ∷ ident name ∷ mark signs.OpenParen ∷ (params ++ (mark signs.CloseParen ∷ []))))) ++ (mark signs.Semicolon ∷ line_end ∷ [])
          ≡ deep_indent ∷ ret ++ space ∷ ident name ∷ mark signs.OpenParen ∷ params ++ mark signs.CloseParen ∷ mark signs.Semicolon ∷ line_end ∷ []
      semicolon_last ret name params = simp append_assoc
