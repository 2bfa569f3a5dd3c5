-- A loop reads on what is left: what it has so far, and what is left gives, are the whole.
use Rattle.std.proofs.Common.{◌≡◌, true, false, Result, Ok, Err, List, [], ◌∷◌, ◌++◌, refl, sym, ap, ◌∙◌, append_assoc}
use Rattle.std.proofs.lemmas.List.{append-nil}
use Rattle.facts.specs.ResultSteps.{◌>>=◌}
use Rattle.idl_parse.specs.KindSteps.{begins}
use Rattle.idl_parse.specs.ReadSteps.{Stop, Read, Fails, mark_at, with_prefix, until_at}
use Rattle.idl_lex.specs.declared.kind.Kind.TheVariants as kinds
use Rattle.idl_parse.specs.declared.parser.halt.Halt.{Halt}
use Rattle.idl_parse.specs.declared.parser.halt.Halt.TheVariants as halts
use Rattle.idl_lex.specs.declared.sign.Sign.{Sign}
use Rattle.idl_lex.specs.declared.token.Token.{Token}
use Rattle.idl_parse.specs.ReadSteps.{Shrinks}
use Rattle.idl_parse.proofs.Parsing.Repeating.Loops.{until_turn}

regroup : {A : Type 0} (prefix : List A) (x : A) (read : Read (List A)) → with_prefix prefix (read >>= λ xs. Ok (x ∷ xs.0, xs.1)) ≡ with_prefix (prefix ++ x ∷ []) read
regroup prefix x (Ok xs) = ap (λ ys. Ok (ys, xs.1)) (sym (append_assoc prefix (x ∷ []) xs.0))
regroup prefix x (Err s) = refl

pub fails_first : {A B : Type 0} (e : Halt) (left : List Token) (first : Result A Stop) (rest : Result B Stop) → Fails e left first → ((s : Stop) → first ≡ Err s → rest ≡ Err s) → Fails e left rest
fails_first halts.Memory left first rest h on = tt
fails_first (halts.Grammar why) left first rest h on = on (record { left = left; why = why }) h

pub nothing_before : {A : Type 0} (read : Read (List A)) → with_prefix [] read ≡ read
nothing_before (Ok xs) = refl
nothing_before (Err s) = refl

module _ {A : Type 0} (sign : Sign) (f : List Token → Read A) (shrinks : Shrinks f) where
  pub loop_goes_on : (prefix : List A) (ts : List Token) (x : A) (after : List Token) (total : Read (List A)) → begins (kinds.Sign sign) ts ≡ false → f ts ≡ Ok (x, after) → with_prefix prefix (until_at sign f ts) ≡ total → with_prefix (prefix ++ x ∷ []) (until_at sign f after) ≡ total
  loop_goes_on prefix ts x after total b e so_far =
      let turn : until_at sign f ts ≡ (until_at sign f after >>= λ xs. Ok (x ∷ xs.0, xs.1)) = until_turn sign f shrinks ts ∙ rw (b, e) refl in
      sym (regroup prefix x (until_at sign f after)) ∙ ap (with_prefix prefix) (sym turn) ∙ so_far

  pub loop_fails : (e : Halt) (left : List Token) (prefix : List A) (ts : List Token) (total : Read (List A)) → begins (kinds.Sign sign) ts ≡ false → Fails e left (f ts) → with_prefix prefix (until_at sign f ts) ≡ total → Fails e left total
  loop_fails e left prefix ts total b h so_far =
      fails_first e left (f ts) total h (λ s failed.
      let turn : until_at sign f ts ≡ Err s = until_turn sign f shrinks ts ∙ rw (b, failed) refl in
      sym so_far ∙ rw turn refl)

  pub loop_ends : (prefix : List A) (ts : List Token) (t : Token) (rest : List Token) (total : Read (List A)) → begins (kinds.Sign sign) ts ≡ true → mark_at sign ts ≡ Ok (t, rest) → with_prefix prefix (until_at sign f ts) ≡ total → total ≡ Ok (prefix, rest)
  loop_ends prefix ts t rest total b e so_far =
      let turn : until_at sign f ts ≡ Ok ([], rest) = until_turn sign f shrinks ts ∙ rw (b, e) refl in
      sym so_far ∙ rw turn (ap (λ ys. Ok (ys, rest)) (append-nil prefix))

  pub loop_end_fails : (e : Halt) (left : List Token) (prefix : List A) (ts : List Token) (total : Read (List A)) → begins (kinds.Sign sign) ts ≡ true → Fails e left (mark_at sign ts) → with_prefix prefix (until_at sign f ts) ≡ total → Fails e left total
  loop_end_fails e left prefix ts total b h so_far =
      fails_first e left (mark_at sign ts) total h (λ s failed.
      let turn : until_at sign f ts ≡ Err s = until_turn sign f shrinks ts ∙ rw (b, failed) refl in
      sym so_far ∙ rw turn refl)
