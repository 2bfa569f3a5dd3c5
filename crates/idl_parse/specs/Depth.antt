-- How many types an index of tokens stands inside. `<` and `>` stand in types alone, so these are as many as `<` are
-- open there (docs/IDL.md, "Faults of the grammar").
use Rattle.std.specs.Prelude.{ℕ, zero, suc, ◌<◌, List, [], ◌∷◌}
use Rattle.idl_lex.specs.declared.kind.Kind.{Kind}
use Rattle.idl_lex.specs.declared.kind.Kind.TheVariants.{Sign}
use Rattle.idl_lex.specs.declared.sign.Sign.TheVariants.{Less, Greater}
use Rattle.idl_lex.specs.declared.token.Token.{Token}

abbrev pub one_less : ℕ → ℕ
one_less zero = zero
one_less (suc n) = n

-- how many are open after a token, where so many are before it
abbrev pub following : Kind → ℕ → ℕ
following (Sign Less) n = suc n
following (Sign Greater) n = one_less n
following _ n = n

-- how many are open after all tokens
abbrev pub opened : ℕ → List Token → ℕ
opened n [] = n
opened n (t ∷ ts) = opened (following t.kind n) ts

-- before each token fewer are open than the limit
abbrev pub Shallow : ℕ → ℕ → List Token → Type 0
Shallow limit n [] = Unit {0}
Shallow limit n (t ∷ ts) = (n < limit) × Shallow limit (following t.kind n) ts
