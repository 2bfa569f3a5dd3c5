-- Pieces of which each token is ended by what follows it lex to their tokens.
use Rattle.std.proofs.Common.{◌≡◌, ◌+◌, ◌-◌, ℕ, true, List, [], ◌∷◌, ◌++◌, length, sym, ap, ◌∙◌, subst, arith, append_assoc, length-append}
use Rattle.std.proofs.lemmas.Bool.{and_parts}
use Rattle.std.proofs.lemmas.List.{append-nil}
use Rattle.std.specs.List.{list_all}
use Rattle.idl_lex.specs.Bytes.{is_white}
use Rattle.idl_lex.specs.Tokens.{AreLexemes, token_between}
use Rattle.idl_lex.specs.Tokens.AreLexemes.{none, then_trivia, then_token}
use Rattle.idl_lex.specs.Tokens.IsLexeme.{trivia}
use Rattle.idl_lex.specs.Trivia.IsTrivia.{white}
use Rattle.idl_lex.specs.declared.kind.Kind.{Kind}
use Rattle.idl_lex.specs.declared.token.Token.{Token}
use Rattle.canonical_tree.specs.Pieces.{Piece, token, blank, spell, tokens_at}
use Rattle.canonical_tree.proofs.Lexing.Lexemes.{EndsAfter, Lexes}

-- Blanks are white, and each token is one where the pieces after it follow: those of the list, and then others.
abbrev pub Ended : List Piece → List Piece → Type 0
Ended [] after = Unit {0}
Ended (blank bytes ∷ pieces) after = (list_all is_white bytes ≡ true) × Ended pieces after
Ended (token kind bytes ∷ pieces) after = Lexes kind bytes × EndsAfter kind (spell (pieces ++ after)) × Ended pieces after

-- one list after the other
pub ended_append : (ps qs after : List Piece) → Ended ps (qs ++ after) → Ended qs after → Ended (ps ++ qs) after
ended_append [] qs after a b = b
ended_append (blank bytes ∷ ps) qs after a b = (a.0, ended_append ps qs after a.1 b)
ended_append (token kind bytes ∷ ps) qs after a b =
    (a.0, subst (λ (l : List Piece). EndsAfter kind (spell l)) (sym (append_assoc ps qs after)) a.1, ended_append ps qs after a.2 b)

-- ---- tokens

whites_lex : (size : ℕ) (bytes rest : List ℕ) (tokens : List Token) → list_all is_white bytes ≡ true → AreLexemes size rest tokens [] → AreLexemes size (bytes ++ rest) tokens []
whites_lex size [] rest tokens all lexes = lexes
whites_lex size (b ∷ bytes) rest tokens all lexes =
    let parts = and_parts (is_white b) (list_all is_white bytes) all in
    then_trivia (trivia (white parts.0)) (whites_lex size bytes rest tokens parts.1 lexes)

-- the token between two rests is the one at its offset
token_from : Kind → ℕ → ℕ → Token
token_from kind start end = record { kind = kind; start = start; end = end }

same_token : (size at : ℕ) (kind : Kind) (bytes rest : List ℕ) → at + length (bytes ++ rest) ≡ size → token_between size kind (bytes ++ rest) rest ≡ token_from kind at (at + length bytes)
unfolding token_from
same_token size at kind bytes rest all =
    let start : size - length (bytes ++ rest) ≡ at = omega (arith, all) in
    let end : size - length rest ≡ at + length bytes = omega (arith, all, length-append bytes rest) in
    ap (λ (n : ℕ). token_from kind n (size - length rest)) start ∙ ap (token_from kind at) end

pub pieces_lex : (size at : ℕ) (pieces : List Piece) → Ended pieces [] → at + length (spell pieces) ≡ size → AreLexemes size (spell pieces) (tokens_at at pieces) []
unfolding token_from
pieces_lex size at [] ended all = none
pieces_lex size at (blank bytes ∷ pieces) ended all =
    whites_lex size bytes (spell pieces) (tokens_at (at + length bytes) pieces) ended.0
    (pieces_lex size (at + length bytes) pieces ended.1 (omega (arith, all, length-append bytes (spell pieces))))
pieces_lex size at (token kind bytes ∷ pieces) ended all =
    let rest = pieces_lex size (at + length bytes) pieces ended.2 (omega (arith, all, length-append bytes (spell pieces))) in
    let ends : EndsAfter kind (spell pieces) = subst (λ (l : List Piece). EndsAfter kind (spell l)) (append-nil pieces) ended.1 in
    subst (λ (t : Token). AreLexemes size (bytes ++ spell pieces) (t ∷ tokens_at (at + length bytes) pieces) []) (same_token size at kind bytes (spell pieces) all)
    (then_token (ended.0 (spell pieces) ends) rest)
