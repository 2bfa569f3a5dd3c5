-- Lexemes and faults: one stands at the start of bytes, and one only.
use Rattle.std.proofs.Common.{◌≡◌, ◌≢◌, ◌⊎◌, ℕ, ◌<◌, true, false, eqb, List, [], ◌∷◌, ◌++◌, length, Option, Some, None, refl, sym, ap, ◌∙◌, subst, inl, inr, arith, length-append}
use Rattle.std.proofs.lemmas.Bool.{and_parts, eqb-true}
use Rattle.idl_lex.specs.declared.kind.Kind.{Kind}
use Rattle.idl_lex.specs.declared.kind.Kind.TheVariants as kind
use Rattle.idl_lex.specs.declared.lex_fault.LexWhy.{LexWhy}
use Rattle.idl_lex.specs.declared.lex_fault.LexWhy.TheVariants.{BadByte, OpenComment, BadNumber}
use Rattle.idl_lex.specs.Bytes.{begins, is_quote, is_backslash}
use Rattle.idl_lex.specs.Forms.{IsForm}
use Rattle.idl_lex.specs.Trivia.{HasNoClose, IsTrivia}
use Rattle.idl_lex.specs.Texts.{UnitsSpell, IsCut, IsSpoilt, IsTextPrefix}
use Rattle.idl_lex.specs.Tokens.{IsLongest, IsLexeme, IsFault, HasNoTrivia, DoesNotBegin}
use Rattle.idl_lex.specs.Tokens.IsLexeme.{trivia, token}
use Rattle.idl_lex.specs.Tokens.IsFault.{bad_byte, bad_escape, open_comment, open_text, bad_number}
use Rattle.idl_lex.specs.LexSteps.{Candidate, sound_candidate, token_at, after_trivia, begins_comment}
use Rattle.idl_lex.proofs.Lexing.Lexemes.TriviaLaws.{unclosed_is, unclosed_found, trivia_found, trivia_prefix}
use Rattle.idl_lex.proofs.Lexing.Lexemes.Dominating.{Dominates}
use Rattle.idl_lex.proofs.Lexing.Words.CandidateLaws.{either_dominates, any_dominates}
use Rattle.idl_lex.proofs.Lexing.Strings.TextLaws.{IsStop, units_same, quote_stops, cut_stops, quote_no_cut}
use Rattle.idl_lex.proofs.Lexing.Lexemes.TokenLaws.{in_prefix, found_is, found_longest, none_found, quote_none, text_walks, text_longest, one_longest, trivia_no_token, slash_no_token}

-- ---- what the code finds

pub found_lexeme : (bytes : List ℕ) (found : Candidate) → token_at bytes ≡ Some found → sound_candidate found ≡ true → IsLexeme bytes (Some found.0) found.2
found_lexeme bytes found some sound =
    let is = found_is bytes found some in token (found_longest bytes found some is) (is.sound ∙ sound)

pub found_bad : (bytes : List ℕ) (found : Candidate) → token_at bytes ≡ Some found → sound_candidate found ≡ false → IsFault bytes bytes BadNumber
found_bad bytes found some unsound =
    let is = found_is bytes found some in bad_number (found_longest bytes found some is) (is.sound ∙ unsound)

-- no trivia is found, so none stands there
trivia_none : (bytes : List ℕ) → after_trivia bytes ≡ None → HasNoTrivia bytes
trivia_none bytes not_found rest is = let found = trivia_found is in cc

comment_none : (bytes : List ℕ) → begins_comment bytes ≡ false → DoesNotBegin (47 ∷ 42 ∷ []) bytes
comment_none bytes no_comment rest comment = let same = ap begins_comment comment in cc

quote_not_there : (bytes : List ℕ) → begins is_quote bytes ≡ false → DoesNotBegin (34 ∷ []) bytes
quote_not_there bytes no_quote rest quote = let same = ap (begins is_quote) quote in cc

pub none_bad : (bytes : List ℕ) → bytes ≢ [] → after_trivia bytes ≡ None → begins_comment bytes ≡ false → begins is_quote bytes ≡ false → token_at bytes ≡ None → IsFault bytes bytes BadByte
none_bad bytes some no_trivia no_comment no_quote not_found =
    bad_byte some (trivia_none bytes no_trivia) (none_found bytes not_found no_quote) (comment_none bytes no_comment) (quote_not_there bytes no_quote)

pub text_lexeme : (bytes rest : List ℕ) → IsTextPrefix bytes rest → IsLexeme bytes (Some kind.Text) rest
text_lexeme bytes rest is = token (text_longest bytes rest is).1 refl

pub comment_bad : (bytes : List ℕ) → begins_comment bytes ≡ true → after_trivia bytes ≡ None → IsFault bytes bytes OpenComment
comment_bad [] begins no_trivia = absurd (cc)
comment_bad (a ∷ []) begins no_trivia = absurd (cc ((and_parts (eqb a 47) false begins).1))
comment_bad (a ∷ b ∷ inside) begins no_trivia =
    let parts = and_parts (eqb a 47) (eqb b 42) begins in
    let same : a ∷ b ∷ inside ≡ 47 ∷ 42 ∷ inside = let first = eqb-true a 47 parts.0 in let second = eqb-true b 42 parts.1 in cc in
    open_comment same (unclosed_is inside (ap after_trivia (sym same) ∙ no_trivia))

-- ---- a lexeme is not empty

-- a token has bytes
pub form_some : (k : Kind) (word : List ℕ) → IsForm k word → 0 < length word
unfolding token_at
form_some k [] form = nothing (either_dominates None k [] (any_dominates k [] [] form))
  where
    nothing : ((k ≡ kind.Text) × (◌≡◌ {A = Option Candidate} None None)) ⊎ Dominates None k [] → 0 < length {A = ℕ} []
    nothing (inl text) = let is : IsForm kind.Text [] = subst (λ (j : Kind). IsForm j []) text.0 form in absurd (cc (is.1.1))
    nothing (inr dominates) = absurd dominates
form_some k (b ∷ word) form = omega arith

-- a token's bytes have its form
abbrev pub HasForm : Option Kind → List ℕ → Type 0
HasForm None word = Unit {0}
HasForm (Some k) word = IsForm k word

pub lexeme_prefix : {k : Option Kind} {bytes rest : List ℕ} → IsLexeme bytes k rest → (word : List ℕ) × (bytes ≡ word ++ rest) × (0 < length word) × HasForm k word
lexeme_prefix (trivia is) = let prefix = trivia_prefix is in (prefix.0, prefix.1, prefix.2, tt)
lexeme_prefix (token {kind = k} {word = word} is sound) = (word, is.prefix, form_some k word is.form, is.form)

pub lexeme_shorter : {k : Option Kind} {bytes rest : List ℕ} → IsLexeme bytes k rest → length rest < length bytes
lexeme_shorter {rest = rest} lexeme = let prefix = lexeme_prefix lexeme in omega (arith, ap length prefix.1, length-append prefix.0 rest)

-- ---- one lexeme only, and no fault beside it

pub one_lexeme : {j k : Option Kind} {bytes r s : List ℕ} → IsLexeme bytes j r → IsLexeme bytes k s → (j ≡ k) × (r ≡ s)
one_lexeme (trivia a) (trivia b) = let found = trivia_found a in let also = trivia_found b in (refl, cc)
one_lexeme (trivia {bytes = bytes} {rest = rest} a) (token {kind = k} {word = w} {rest = s} b sound) = absurd (trivia_no_token bytes rest (trivia_found a) k w s b.prefix b.form)
one_lexeme (token {kind = k} {word = w} {rest = s} b sound) (trivia {bytes = bytes} {rest = rest} a) = absurd (trivia_no_token bytes rest (trivia_found a) k w s b.prefix b.form)
one_lexeme (token {kind = j} {word = v} {bytes = bytes} {rest = r} a sound) (token {kind = k} {word = w} {rest = s} b also) =
    let same = one_longest bytes j k v w r s a b in (ap Some same.0, same.2)

-- a walk from a quote stops at the quote of a token that stands there
text_stop : {spelled : List ℕ} (bytes inside from : List ℕ) (k : Kind) (word rest : List ℕ) → bytes ≡ 34 ∷ inside → bytes ≡ word ++ rest → IsForm k word → UnitsSpell spelled inside from → IsStop from → from ≡ 34 ∷ rest
text_stop bytes inside from k word rest quote prefix form walk stop = by_prefix (in_prefix bytes k word rest prefix form)
  where
    by_prefix : ((k ≡ kind.Text) × (token_at bytes ≡ None)) ⊎ Dominates (token_at bytes) k rest → from ≡ 34 ∷ rest
    by_prefix (inl text) =
        (units_same walk (text_walks bytes inside word rest quote prefix (subst (λ (j : Kind). IsForm j word) text.0 form)) stop (quote_stops rest)).0
    by_prefix (inr dominates) = absurd (subst (λ (o : Option Candidate). Dominates o k rest) (ap token_at quote ∙ quote_none inside) dominates)

-- no token stands at a text that is spoilt or cut
pub token_spoilt : {spelled : List ℕ} (bytes inside from : List ℕ) (k : Kind) (word rest : List ℕ) → IsLongest k word bytes rest → bytes ≡ 34 ∷ inside → UnitsSpell spelled inside from → IsSpoilt from → ⊥
token_spoilt bytes inside from k word rest is quote walk spoilt =
    let same = text_stop bytes inside from k word rest quote is.prefix is.form walk spoilt.whole in
    cc (ap (begins is_backslash) same, spoilt.backslash)

pub token_cut : {spelled : List ℕ} (bytes inside from : List ℕ) (k : Kind) (word rest : List ℕ) → IsLongest k word bytes rest → bytes ≡ 34 ∷ inside → UnitsSpell spelled inside from → IsCut from → ⊥
token_cut bytes inside from k word rest is quote walk cut =
    let same = text_stop bytes inside from k word rest quote is.prefix is.form walk (cut_stops cut) in
    quote_no_cut rest (subst IsCut same cut)

pub token_comment : (bytes inside : List ℕ) (k : Kind) (word rest : List ℕ) → IsLongest k word bytes rest → bytes ≡ 47 ∷ 42 ∷ inside → ⊥
token_comment bytes inside k word rest is comment = slash_no_token (42 ∷ inside) k word rest (sym comment ∙ is.prefix) is.form

-- trivia begins otherwise than a text, and is no open comment
trivia_no_quote : (bytes rest inside : List ℕ) → IsTrivia bytes rest → bytes ≡ 34 ∷ inside → ⊥
trivia_no_quote bytes rest inside is quote = let found = trivia_found is in let nothing = ap after_trivia quote in cc

trivia_no_comment : (bytes rest inside : List ℕ) → IsTrivia bytes rest → bytes ≡ 47 ∷ 42 ∷ inside → HasNoClose inside → ⊥
trivia_no_comment bytes rest inside is comment unclosed = unclosed_found inside rest unclosed (sym (ap after_trivia comment) ∙ trivia_found is)

pub lexeme_no_fault : {k : Option Kind} {bytes rest from : List ℕ} {why : LexWhy} → IsLexeme bytes k rest → IsFault bytes from why → ⊥
lexeme_no_fault (trivia {rest = rest} a) (bad_byte some no_trivia no_token no_comment no_quote) = no_trivia rest a
lexeme_no_fault (trivia a) (bad_escape quote walk spoilt) = trivia_no_quote _ _ _ a quote
lexeme_no_fault (trivia a) (open_comment comment unclosed) = trivia_no_comment _ _ _ a comment unclosed
lexeme_no_fault (trivia a) (open_text quote walk cut) = trivia_no_quote _ _ _ a quote
lexeme_no_fault (trivia {bytes = bytes} {rest = rest} a) (bad_number {kind = k} {word = w} {rest = s} is unsound) = trivia_no_token bytes rest (trivia_found a) k w s is.prefix is.form
lexeme_no_fault (token {kind = k} {word = w} {rest = s} is sound) (bad_byte some no_trivia no_token no_comment no_quote) = no_token k w s is.prefix is.form
lexeme_no_fault (token is sound) (bad_escape quote walk spoilt) = token_spoilt _ _ _ _ _ _ is quote walk spoilt
lexeme_no_fault (token is sound) (open_comment comment unclosed) = token_comment _ _ _ _ _ is comment
lexeme_no_fault (token is sound) (open_text quote walk cut) = token_cut _ _ _ _ _ _ is quote walk cut
lexeme_no_fault (token {kind = j} {word = v} {bytes = bytes} {rest = r} a sound) (bad_number {kind = k} {word = w} {rest = s} b unsound) =
    let same = one_longest bytes j k v w r s a b in cc
