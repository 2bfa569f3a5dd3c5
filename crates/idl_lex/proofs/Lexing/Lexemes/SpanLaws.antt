-- Tokens stand in order in their text, and each one's text is its slice.
use Rattle.std.proofs.Common.{◌≡◌, ℕ, ◌+◌, ◌-◌, ◌≤◌, List, [], ◌++◌, length, take, drop, refl, sym, ap, ◌∙◌, subst, arith, append_assoc, length-append}
use Rattle.std.proofs.lemmas.List.{take_at, drop_at}
use Rattle.std.specs.Prelude.{slice_range}
use Rattle.idl_lex.specs.declared.token.Token.{Token}
use Rattle.idl_lex.specs.Forms.{IsForm}
use Rattle.idl_lex.specs.Spans.{AreSpans}
use Rattle.idl_lex.specs.Tokens.{AreLexemes, Tokens}
use Rattle.idl_lex.specs.Tokens.AreLexemes.{none, then_trivia, then_token}
use Rattle.idl_lex.proofs.Lexing.Lexemes.LexemeLaws.{lexeme_prefix}

-- a word between its prefix and its rest
slice_is : (text prefix word rest : List ℕ) (start end : ℕ) → text ≡ prefix ++ (word ++ rest) → start ≡ length prefix → end ≡ length prefix + length word → slice_range text start end ≡ word
slice_is text prefix word rest start end split s e =
    let dropped : drop start text ≡ word ++ rest = ap (drop start) split ∙ drop_at prefix (word ++ rest) start (sym s) in
    let many : length word ≡ end - start = omega arith in
    ap (take (end - start)) dropped ∙ take_at word rest (end - start) many

spans_from : (text prefix : List ℕ) (at : ℕ) {bytes rest : List ℕ} {tokens : List Token} → text ≡ prefix ++ bytes → at ≤ length prefix → AreLexemes (length text) bytes tokens rest → AreSpans text at tokens
spans_from text prefix at {bytes = bytes} split before none = omega (arith, ap length split, length-append prefix bytes)
spans_from text prefix at split before (then_trivia {next = next} first others) =
    let gone = lexeme_prefix first in
    let whole : text ≡ (prefix ++ gone.0) ++ next = split ∙ ap (λ (t : List ℕ). prefix ++ t) gone.1 ∙ sym (append_assoc prefix gone.0 next) in
    spans_from text (prefix ++ gone.0) at whole (omega (arith, length-append prefix gone.0)) others
spans_from text prefix at {bytes = bytes} split before (then_token {kind = k} {next = next} first others) =
    let word = lexeme_prefix first in
    let whole : text ≡ (prefix ++ word.0) ++ next = split ∙ ap (λ (t : List ℕ). prefix ++ t) word.1 ∙ sym (append_assoc prefix word.0 next) in
    let start : length text - length bytes ≡ length prefix = omega (arith, ap length split, length-append prefix bytes) in
    let end : length text - length next ≡ length prefix + length word.0 =
    omega (arith, ap length split, length-append prefix bytes, ap length word.1, length-append word.0 next) in
    let slice = slice_is text prefix word.0 next (length text - length bytes) (length text - length next) (split ∙ ap (λ (t : List ℕ). prefix ++ t) word.1) start end in (
      omega arith,
      omega (arith, word.2),
      subst (IsForm k) (sym slice) word.3,
      spans_from text (prefix ++ word.0) (length text - length next) whole (omega (arith, length-append prefix word.0)) others,
    )

pub spans_are : (text : List ℕ) (tokens : List Token) → Tokens text tokens → AreSpans text 0 tokens
spans_are text tokens all = spans_from text [] 0 refl (omega arith) all
