-- What the text of a file is: one thing, which the two readers of it find.
use Rattle.std.proofs.Common.{◌≡◌, ◌≤◌, ◌⊎◌, inl, inr, ⊎_elim, ℕ, List, length, refl, sym, ap, subst, arith}
use Rattle.std.proofs.lemmas.Bool.{cases_lt}
use Rattle.std.specs.Prelude.{Result, Ok, Err, IfSome, IsErr, IsErrAnd}
use Rattle.idl_parse.specs.Faults.{IsFault}
use Rattle.idl_parse.specs.Files.{File}
use Rattle.idl_parse.specs.Grammar.{nesting_limit, IsFile}
use Rattle.idl_lex.specs.LexAnswers.{IsFaultOf}
use Rattle.idl_parse.specs.Parsed.{HasFault}
use Rattle.idl_lex.specs.Tokens.{Tokens, IsLexFault}
use Rattle.idl_lex.specs.declared.lex_fault.LexFault.{LexFault}
use Rattle.idl_lex.specs.declared.lex_fault.LexFault.TheVariants as lexes
use Rattle.idl_lex.specs.declared.lex_fault.LexWhy.{LexWhy}
use Rattle.idl_parse.specs.declared.parse_fault.ParseFault.{ParseFault}
use Rattle.idl_parse.specs.declared.parse_fault.ParseFault.TheVariants as parses
use Rattle.idl_parse.specs.declared.parse_fault.ParseWhy.{ParseWhy}
use Rattle.idl_lex.specs.declared.token.Token.{Token}
use Rattle.idl_parse.specs.declared.tree.module.Entry.{Entry}
use Rattle.idl_lex.proofs.CallerLemmas.{some_outcome, one_tokens, not_both, one_lex_fault}
use Rattle.idl_parse.proofs.CallerLemmas.{some_tree, one_file, one_fault}
use Rattle.idl_load.specs.FileText.{FileText, tree, bad, IsText, too_long, no_tokens, no_file, file}
use Rattle.idl_load.specs.LoadSteps.{text_of, lex_refused, parse_refused}
use Rattle.idl_load.specs.declared.file_fault.FileFault.TheVariants.{TooLong, Lex, Parse}
use Rattle.idl_load.specs.declared.tree_fault.TreeFault.{TreeFault}
use Rattle.tars_base.specs.Contents.{HoldsOnly}
use Rattle.tars_base.specs.Limits.{MAX_FILE}

-- ---- one thing

module _ (bytes : List ℕ) where
  -- what stands of the tokens that the bytes have, if that stands of these
  moved : (P : List Token → Type 0) (a b : List Token) → Tokens bytes a → Tokens bytes b → P b → P a
  moved P a b is other p = subst P (one_tokens bytes b a other is) p

  same_lex : (a b : ℕ) (v w : LexWhy) → IsLexFault bytes a v → IsLexFault bytes b w → bad (Lex a v) ≡ bad (Lex b w)
  same_lex a b v w is other = let same = one_lex_fault bytes a b v w is other in cc

  same_parse : (ts us : List Token) (a b : ℕ) (v w : ParseWhy) → Tokens bytes ts → Tokens bytes us → IsFault nesting_limit (length bytes) ts a v → IsFault nesting_limit (length bytes) us b w → bad (Parse a v) ≡ bad (Parse b w)
  same_parse ts us a b v w t u is other =
      let same = one_fault nesting_limit (length bytes) ts a b v w is (moved (λ (l : List Token). IsFault nesting_limit (length bytes) l b w) ts us t u other) in cc

  no_tree : (ts us : List Token) (a : ℕ) (v : ParseWhy) (entries : List Entry) → Tokens bytes ts → Tokens bytes us → IsFault nesting_limit (length bytes) ts a v → IsFile nesting_limit us entries → ⊥
  no_tree ts us a v entries t u is other = is.no_file entries (moved (λ (l : List Token). IsFile nesting_limit l entries) ts us t u other)

  pub one_text : (a b : FileText) → IsText bytes a → IsText bytes b → a ≡ b
  one_text a b (too_long long) (too_long other) = refl
  one_text a b (too_long long) (no_tokens at why within fault) = absurd (omega (arith, long, within))
  one_text a b (too_long long) (no_file ts at why within t fault) = absurd (omega (arith, long, within))
  one_text a b (too_long long) (file ts es within t is) = absurd (omega (arith, long, within))
  one_text a b (no_tokens at why within fault) (too_long long) = absurd (omega (arith, long, within))
  one_text a b (no_tokens at why within fault) (no_tokens at' why' within' fault') = same_lex at at' why why' fault fault'
  one_text a b (no_tokens at why within fault) (no_file ts at' why' within' t fault') = absurd (not_both bytes ts at why t fault)
  one_text a b (no_tokens at why within fault) (file ts es within' t is) = absurd (not_both bytes ts at why t fault)
  one_text a b (no_file ts at why within t fault) (too_long long) = absurd (omega (arith, long, within))
  one_text a b (no_file ts at why within t fault) (no_tokens at' why' within' fault') = absurd (not_both bytes ts at' why' t fault')
  one_text a b (no_file ts at why within t fault) (no_file us at' why' within' u fault') = same_parse ts us at at' why why' t u fault fault'
  one_text a b (no_file ts at why within t fault) (file us es within' u is) = absurd (no_tree ts us at why es t u fault is)
  one_text a b (file ts es within t is) (too_long long) = absurd (omega (arith, long, within))
  one_text a b (file ts es within t is) (no_tokens at why within' fault) = absurd (not_both bytes ts at why t fault)
  one_text a b (file ts es within t is) (no_file us at why within' u fault) = absurd (no_tree us ts at why es u t fault is)
  one_text a b (file ts es within t is) (file us es' within' u is') = ap tree (one_file ts es es' is (moved (λ (l : List Token). IsFile nesting_limit l es') ts us t u is'))

  pub is_one : (x : FileText) → IsText bytes x → HoldsOnly (IsText bytes) x
  is_one x is = record { holds = is; only = λ other o. one_text other x o is }

  -- ---- something

  by_tree : (tokens : List Token) → length bytes ≤ MAX_FILE → Tokens bytes tokens
      → (((entries : List Entry) × IsFile nesting_limit tokens entries) ⊎ ((at : ℕ) × (why : ParseWhy) × IsFault nesting_limit (length bytes) tokens at why)) → (x : FileText) × IsText bytes x
  by_tree tokens within are (inl (entries, is)) = (tree entries, file tokens entries within are is)
  by_tree tokens within are (inr (at, why, fault)) = (bad (Parse at why), no_file tokens at why within are fault)

  by_tokens : length bytes ≤ MAX_FILE → (((tokens : List Token) × Tokens bytes tokens) ⊎ ((at : ℕ) × (why : LexWhy) × IsLexFault bytes at why)) → (x : FileText) × IsText bytes x
  by_tokens within (inl (tokens, are)) = by_tree tokens within are (some_tree (length bytes) tokens)
  by_tokens within (inr (at, why, fault)) = (bad (Lex at why), no_tokens at why within fault)

  pub some_text : (x : FileText) × IsText bytes x
  some_text = ⊎_elim (λ long. (bad TooLong, too_long long)) (λ within. by_tokens within (some_outcome bytes)) (cases_lt MAX_FILE (length bytes))

  -- ---- what the readers find

  pub lex_error : (fault : LexFault) → length bytes ≤ MAX_FILE → IsFaultOf fault bytes → IfSome (text_of (Err (lex_refused fault))) (HoldsOnly (IsText bytes))
  lex_error lexes.Memory within is = tt
  lex_error (lexes.Bad at why) within is = is_one (bad (Lex at why)) (no_tokens at why within is)

  pub parse_error : (tokens : List Token) (fault : ParseFault) → length bytes ≤ MAX_FILE → Tokens bytes tokens → HasFault nesting_limit bytes tokens (Err fault)
      → IfSome (text_of (Err (parse_refused fault))) (HoldsOnly (IsText bytes))
  parse_error tokens parses.Memory within are is = tt
  parse_error tokens (parses.Bad at why) within are is = is_one (bad (Parse at why)) (no_file tokens at why within are is)

-- what an error says of a result
pub by_error : (Q : FileText → Type 0) (result : Result File TreeFault) (e : TreeFault)
    → IsErr result × IsErrAnd result (λ x. x ≡ e) → IfSome (text_of (Err e)) Q → IfSome (text_of result) Q
by_error Q (Ok found) e is q = absurd (cc (is.0))
by_error Q (Err x) e is q = subst (λ (f : TreeFault). IfSome (text_of (Err f)) Q) (sym is.1) q
