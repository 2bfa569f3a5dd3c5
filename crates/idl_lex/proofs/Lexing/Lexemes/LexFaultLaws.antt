-- One fault stands at the start of bytes, and where it is told.
use Rattle.std.proofs.Common.{◌≡◌, ℕ, ◌≤◌, List, [], ◌∷◌, length, refl, sym, ap, subst, arith, length-append}
use Rattle.idl_lex.specs.declared.kind.Kind.{Kind}
use Rattle.idl_lex.specs.declared.lex_fault.LexWhy.{LexWhy}
use Rattle.idl_lex.specs.declared.lex_fault.LexWhy.TheVariants.{BadByte, OpenComment, OpenText, BadNumber}
use Rattle.idl_lex.specs.Texts.{UnitsSpell, IsCut, IsSpoilt}
use Rattle.idl_lex.specs.Tokens.{IsLongest, IsFault, HasNoToken, DoesNotBegin}
use Rattle.idl_lex.specs.Tokens.IsFault.{bad_byte, bad_escape, open_comment, open_text, bad_number}
use Rattle.idl_lex.proofs.Lexing.Strings.TextLaws.{IsStop, units_same, units_split, cut_stops}
use Rattle.idl_lex.proofs.Lexing.Lexemes.LexemeLaws.{token_spoilt, token_cut, token_comment}

-- two walks from one quote
two_walks : {s t : List ℕ} (bytes i j a b : List ℕ) → bytes ≡ 34 ∷ i → bytes ≡ 34 ∷ j → UnitsSpell s i a → UnitsSpell t j b → IsStop a → IsStop b → a ≡ b
two_walks {t = t} bytes i j a b quote_i quote_j walk_i walk_j stop_a stop_b =
    let same : j ≡ i = cc in (units_same walk_i (subst (λ (u : List ℕ). UnitsSpell t u b) same walk_j) stop_a stop_b).0

spoilt_or_cut : {s t : List ℕ} (bytes i j a b : List ℕ) → bytes ≡ 34 ∷ i → bytes ≡ 34 ∷ j → UnitsSpell s i a → UnitsSpell t j b → IsSpoilt a → IsCut b → ⊥
spoilt_or_cut bytes i j a b quote_i quote_j walk_i walk_j spoilt cut =
    spoilt.cut (subst IsCut (sym (two_walks bytes i j a b quote_i quote_j walk_i walk_j spoilt.whole (cut_stops cut))) cut)

-- the first bytes tell them apart
quote_no_comment : (bytes i j : List ℕ) → bytes ≡ 34 ∷ i → bytes ≡ 47 ∷ 42 ∷ j → ⊥
quote_no_comment bytes i j quote comment = cc (quote, comment)

-- beside each fault stands no other
byte_only : {bytes b : List ℕ} {w : LexWhy} → HasNoToken bytes → DoesNotBegin (47 ∷ 42 ∷ []) bytes → DoesNotBegin (34 ∷ []) bytes → IsFault bytes b w → (bytes ≡ b) × (BadByte ≡ w)
byte_only no_token no_comment no_quote (bad_byte some no_trivia' no_token' no_comment' no_quote') = (refl, refl)
byte_only no_token no_comment no_quote (bad_escape quote walk spoilt) = absurd (no_quote _ quote)
byte_only no_token no_comment no_quote (open_comment comment unclosed) = absurd (no_comment _ comment)
byte_only no_token no_comment no_quote (open_text quote walk cut) = absurd (no_quote _ quote)
byte_only no_token no_comment no_quote (bad_number {kind = k} {word = w} {rest = s} is unsound) = absurd (no_token k w s is.prefix is.form)

escape_only : {spelled bytes inside from b : List ℕ} {w : LexWhy} → bytes ≡ 34 ∷ inside → UnitsSpell spelled inside from → IsSpoilt from → IsFault bytes b w → (from ≡ b) × (BadByte ≡ w)
escape_only quote walk spoilt (bad_byte some no_trivia no_token no_comment no_quote) = absurd (no_quote _ quote)
escape_only quote walk spoilt (bad_escape quote' walk' spoilt') = (two_walks _ _ _ _ _ quote quote' walk walk' spoilt.whole spoilt'.whole, refl)
escape_only quote walk spoilt (open_comment comment unclosed) = absurd (quote_no_comment _ _ _ quote comment)
escape_only quote walk spoilt (open_text quote' walk' cut) = absurd (spoilt_or_cut _ _ _ _ _ quote quote' walk walk' spoilt cut)
escape_only quote walk spoilt (bad_number is unsound) = absurd (token_spoilt _ _ _ _ _ _ is quote walk spoilt)

comment_only : {bytes inside b : List ℕ} {w : LexWhy} → bytes ≡ 47 ∷ 42 ∷ inside → IsFault bytes b w → (bytes ≡ b) × (OpenComment ≡ w)
comment_only comment (bad_byte some no_trivia no_token no_comment no_quote) = absurd (no_comment _ comment)
comment_only comment (bad_escape quote walk spoilt) = absurd (quote_no_comment _ _ _ quote comment)
comment_only comment (open_comment comment' unclosed') = (refl, refl)
comment_only comment (open_text quote walk cut) = absurd (quote_no_comment _ _ _ quote comment)
comment_only comment (bad_number is unsound) = absurd (token_comment _ _ _ _ _ is comment)

cut_only : {spelled bytes inside from b : List ℕ} {w : LexWhy} → bytes ≡ 34 ∷ inside → UnitsSpell spelled inside from → IsCut from → IsFault bytes b w → (bytes ≡ b) × (OpenText ≡ w)
cut_only quote walk cut (bad_byte some no_trivia no_token no_comment no_quote) = absurd (no_quote _ quote)
cut_only quote walk cut (bad_escape quote' walk' spoilt) = absurd (spoilt_or_cut _ _ _ _ _ quote' quote walk' walk spoilt cut)
cut_only quote walk cut (open_comment comment unclosed) = absurd (quote_no_comment _ _ _ quote comment)
cut_only quote walk cut (open_text quote' walk' cut') = (refl, refl)
cut_only quote walk cut (bad_number is unsound) = absurd (token_cut _ _ _ _ _ _ is quote walk cut)

number_only : {k : Kind} {word bytes rest b : List ℕ} {w : LexWhy} → IsLongest k word bytes rest → IsFault bytes b w → (bytes ≡ b) × (BadNumber ≡ w)
number_only {k = k} {word = word} {rest = rest} is (bad_byte some no_trivia no_token no_comment no_quote) = absurd (no_token k word rest is.prefix is.form)
number_only is (bad_escape quote walk spoilt) = absurd (token_spoilt _ _ _ _ _ _ is quote walk spoilt)
number_only is (open_comment comment unclosed) = absurd (token_comment _ _ _ _ _ is comment)
number_only is (open_text quote walk cut) = absurd (token_cut _ _ _ _ _ _ is quote walk cut)
number_only is (bad_number is' unsound') = (refl, refl)

pub one_fault : {bytes a b : List ℕ} {v w : LexWhy} → IsFault bytes a v → IsFault bytes b w → (a ≡ b) × (v ≡ w)
one_fault (bad_byte some no_trivia no_token no_comment no_quote) other = byte_only no_token no_comment no_quote other
one_fault (bad_escape quote walk spoilt) other = escape_only quote walk spoilt other
one_fault (open_comment comment unclosed) other = comment_only comment other
one_fault (open_text quote walk cut) other = cut_only quote walk cut other
one_fault (bad_number is unsound) other = number_only is other

-- ---- the offset of a fault

units_within : {spelled bytes rest : List ℕ} → UnitsSpell spelled bytes rest → length rest ≤ length bytes
units_within {rest = rest} walk = let split = units_split walk in omega (arith, ap length split.1, length-append split.0 rest)

pub fault_within : {bytes from : List ℕ} {why : LexWhy} → IsFault bytes from why → length from ≤ length bytes
fault_within (bad_byte some no_trivia no_token no_comment no_quote) = omega arith
fault_within (bad_escape quote walk spoilt) = omega (arith, ap length quote, units_within walk)
fault_within (open_comment comment unclosed) = omega arith
fault_within (open_text quote walk cut) = omega arith
fault_within (bad_number is unsound) = omega arith
