-- The lexemes of a text, one after the other, are one list.
use Rattle.std.proofs.Common.{◌≡◌, ℕ, ◌≤◌, List, [], ◌∷◌, ◌++◌, length, Option, Some, None, refl, sym, ap, ◌∙◌, subst, arith}
use Rattle.idl_lex.specs.declared.kind.Kind.{Kind}
use Rattle.idl_lex.specs.declared.token.Token.{Token}
use Rattle.idl_lex.specs.declared.lex_fault.LexWhy.{LexWhy}
use Rattle.idl_lex.specs.Tokens.{IsLexeme, IsFault, AreLexemes, token_between}
use Rattle.idl_lex.specs.Tokens.AreLexemes.{none, then_trivia, then_token}
use Rattle.idl_lex.proofs.Lexing.Lexemes.LexemeLaws.{lexeme_shorter, one_lexeme, lexeme_no_fault}

pub trivia_last : {size : ℕ} {bytes next rest : List ℕ} {tokens : List Token} → AreLexemes size bytes tokens next → IsLexeme next None rest → AreLexemes size bytes tokens rest
trivia_last none last = then_trivia last none
trivia_last (then_trivia first others) last = then_trivia first (trivia_last others last)
trivia_last (then_token first others) last = then_token first (trivia_last others last)

pub token_last : {size : ℕ} {k : Kind} {bytes next rest : List ℕ} {tokens : List Token} → AreLexemes size bytes tokens next → IsLexeme next (Some k) rest
    → AreLexemes size bytes (tokens ++ token_between size k next rest ∷ []) rest
token_last none last = then_token last none
token_last (then_trivia first others) last = then_trivia first (token_last others last)
token_last (then_token first others) last = then_token first (token_last others last)

pub lexemes_within : {size : ℕ} {bytes rest : List ℕ} {tokens : List Token} → AreLexemes size bytes tokens rest → length rest ≤ length bytes
lexemes_within none = omega arith
lexemes_within (then_trivia first others) = omega (arith, lexeme_shorter first, lexemes_within others)
lexemes_within (then_token first others) = omega (arith, lexeme_shorter first, lexemes_within others)

-- no lexeme stands there
abbrev pub IsEnd : List ℕ → Type 0
IsEnd bytes = (k : Option Kind) (rest : List ℕ) → IsLexeme bytes k rest → ⊥

pub one_list : {size : ℕ} {bytes a b : List ℕ} {s t : List Token} → AreLexemes size bytes s a → AreLexemes size bytes t b → IsEnd a → IsEnd b → (s ≡ t) × (a ≡ b)
one_list none none end_a end_b = (refl, refl)
one_list none (then_trivia first others) end_a end_b = absurd (end_a _ _ first)
one_list none (then_token first others) end_a end_b = absurd (end_a _ _ first)
one_list (then_trivia first others) none end_a end_b = absurd (end_b _ _ first)
one_list (then_token first others) none end_a end_b = absurd (end_b _ _ first)
one_list (then_trivia first others) (then_token second rest) end_a end_b = absurd (cc ((one_lexeme first second).0))
one_list (then_token first others) (then_trivia second rest) end_a end_b = absurd (cc ((one_lexeme first second).0))
one_list {size = size} {b = b} {t = t} (then_trivia first others) (then_trivia second rest) end_a end_b =
    one_list others (subst (λ (n : List ℕ). AreLexemes size n t b) (sym (one_lexeme first second).1) rest) end_a end_b
one_list {size = size} {bytes = bytes} {b = b} (then_token {kind = j} {next = m} first others) (then_token {kind = k} {next = n} {tokens = tokens} second rest) end_a end_b =
    let same = one_lexeme first second in
    let kinds : j ≡ k = let somes = same.0 in cc in
    let tail = one_list others (subst (λ (u : List ℕ). AreLexemes size u tokens b) (sym same.1) rest) end_a end_b in
    let head : token_between size j bytes m ≡ token_between size k bytes n = ap (λ (x : Kind). token_between size x bytes m) kinds ∙ ap (λ (u : List ℕ). token_between size k bytes u) same.1 in
    let tails = tail.0 in
    (cc, tail.1)

pub nil_ends : IsEnd []
nil_ends k rest lexeme = absurd (omega (arith, lexeme_shorter lexeme))

pub fault_ends : {bytes from : List ℕ} {why : LexWhy} → IsFault bytes from why → IsEnd bytes
fault_ends fault k rest lexeme = lexeme_no_fault lexeme fault
