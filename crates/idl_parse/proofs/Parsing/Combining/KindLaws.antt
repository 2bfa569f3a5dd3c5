-- Kinds are told apart by their numbers.
use Rattle.std.proofs.Common.{◌≡◌, ℕ, Bool, true, false, List, [], ◌∷◌, get_or, refl, sym, ap, ◌∙◌, IsTrue, ◌↔◌}
use Rattle.std.proofs.lemmas.Bool.{eqb-true, eq-eqb}
use Rattle.idl_parse.specs.KindSteps.{code_of, code_of_word, code_of_sign, same_kind}
use Rattle.idl_lex.specs.declared.keyword.Keyword.{Keyword}
use Rattle.idl_lex.specs.declared.keyword.Keyword.TheVariants as words
use Rattle.idl_lex.specs.declared.kind.Kind.{Kind}
use Rattle.idl_lex.specs.declared.kind.Kind.TheVariants as kinds
use Rattle.idl_lex.specs.declared.sign.Sign.{Sign}
use Rattle.idl_lex.specs.declared.sign.Sign.TheVariants as signs

-- all kinds by their numbers
table : List Kind
table =
    kinds.Keyword words.Void ∷
    kinds.Keyword words.Struct ∷
    kinds.Keyword words.Bool ∷
    kinds.Keyword words.Byte ∷
    kinds.Keyword words.Short ∷
    kinds.Keyword words.Int ∷
    kinds.Keyword words.Long ∷
    kinds.Keyword words.Float ∷
    kinds.Keyword words.Double ∷
    kinds.Keyword words.String ∷
    kinds.Keyword words.Vector ∷
    kinds.Keyword words.Map ∷
    kinds.Keyword words.Key ∷
    kinds.Keyword words.Routekey ∷
    kinds.Keyword words.Module ∷
    kinds.Keyword words.Interface ∷
    kinds.Keyword words.Out ∷
    kinds.Keyword words.Require ∷
    kinds.Keyword words.Optional ∷
    kinds.Keyword words.False ∷
    kinds.Keyword words.True ∷
    kinds.Keyword words.Enum ∷
    kinds.Keyword words.Const ∷
    kinds.Keyword words.Unsigned ∷
    kinds.Sign signs.OpenBrace ∷
    kinds.Sign signs.CloseBrace ∷
    kinds.Sign signs.OpenParen ∷
    kinds.Sign signs.CloseParen ∷
    kinds.Sign signs.OpenBracket ∷
    kinds.Sign signs.CloseBracket ∷
    kinds.Sign signs.Less ∷
    kinds.Sign signs.Greater ∷
    kinds.Sign signs.Comma ∷
    kinds.Sign signs.Semicolon ∷
    kinds.Sign signs.Equals ∷
    kinds.Sign signs.PathSep ∷
    kinds.Ident ∷ kinds.Number ∷ kinds.Fraction ∷ kinds.Text ∷ kinds.Include ∷ []

kind_of : ℕ → Kind
unfolding table
kind_of n = get_or table n kinds.Ident

back_word : (word : Keyword) → kind_of (code_of_word word) ≡ kinds.Keyword word
unfolding kind_of table
back_word words.Void = refl
back_word _ = refl

back_sign : (sign : Sign) → kind_of (code_of_sign sign) ≡ kinds.Sign sign
unfolding kind_of table
back_sign signs.OpenBrace = refl
back_sign _ = refl

back : (kind : Kind) → kind_of (code_of kind) ≡ kind
unfolding kind_of table
back (kinds.Keyword word) = back_word word
back (kinds.Sign sign) = back_sign sign
back kinds.Ident = refl
back kinds.Number = refl
back kinds.Fraction = refl
back kinds.Text = refl
back kinds.Include = refl

pub same_kind_is : (a b : Kind) → same_kind a b ≡ true → a ≡ b
unfolding same_kind
same_kind_is a b same = sym (back a) ∙ ap kind_of (eqb-true (code_of a) (code_of b) same) ∙ back b

pub is_same_kind : (a b : Kind) → a ≡ b → same_kind a b ≡ true
unfolding same_kind
is_same_kind a b is = eq-eqb (code_of a) (code_of b) (ap code_of is)

agree : (a b : Bool) → (a ≡ true → b ≡ true) → (b ≡ true → a ≡ true) → a ≡ b
agree true b there back = sym (there refl)
agree false true there back = back refl
agree false false there back = refl

pub same_kind_told : (told : Bool) (a b : Kind) → (IsTrue told ↔ (a ≡ b)) → told ≡ same_kind a b
same_kind_told told a b h = agree told (same_kind a b) (λ e. is_same_kind a b (h.0 e)) (λ e. h.1 (same_kind_is a b e))
