-- Every text has tokens or a first fault.
use Rattle.std.proofs.Common.{◌≡◌, ◌≢◌, ◌⊎◌, ℕ, zero, suc, ◌-◌, ◌<◌, true, false, List, [], ◌∷◌, length, drop, Option, Some, None, Result, Ok, Err, refl, ap, subst, inl, inr, arith}
use Rattle.std.proofs.lemmas.Bool.{cases_Bool}
use Rattle.idl_lex.specs.declared.kind.Kind.{Kind}
use Rattle.idl_lex.specs.declared.kind.Kind.TheVariants as kind
use Rattle.idl_lex.specs.declared.token.Token.{Token}
use Rattle.idl_lex.specs.declared.lex_fault.LexWhy.{LexWhy}
use Rattle.idl_lex.specs.declared.lex_fault.LexWhy.TheVariants.{BadByte, OpenComment, OpenText, BadNumber}
use Rattle.idl_lex.specs.declared.texts.Stop.{Stop}
use Rattle.idl_lex.specs.declared.texts.Stop.TheVariants.{Quote, Cut, Spoilt}
use Rattle.idl_lex.specs.Bytes.{begins, is_quote}
use Rattle.idl_lex.specs.Texts.{UnitsSpell}
use Rattle.idl_lex.specs.Texts.UnitsSpell.{none, more}
use Rattle.idl_lex.specs.Tokens.{IsLexeme, AreLexemes, Tokens, IsFault, IsLexFault, token_between}
use Rattle.idl_lex.specs.Tokens.IsLexeme.{trivia}
use Rattle.idl_lex.specs.Tokens.IsFault.{bad_escape, open_text}
use Rattle.idl_lex.specs.Tokens.AreLexemes.{none as no_more, then_trivia, then_token}
use Rattle.idl_lex.specs.LexSteps.{Candidate, sound_candidate, token_at, after_trivia, begins_comment, unit_at}
use Rattle.idl_lex.proofs.Lexing.Lexemes.TriviaLaws.{trivia_is}
use Rattle.idl_lex.proofs.Lexing.Strings.TextLaws.{unit_is, quote_is, cut_is, spoilt_is, unit_shorter, quote_prefix}
use Rattle.idl_lex.proofs.Lexing.Lexemes.LexemeLaws.{found_lexeme, found_bad, none_bad, text_lexeme, comment_bad, lexeme_shorter}

-- ---- the walk of a text ends

abbrev Walks : List ℕ → Type 0
Walks bytes = (spelled : List ℕ) × (rest : List ℕ) × UnitsSpell spelled bytes rest × (stop : Stop) × (unit_at rest ≡ Err stop)

walk_ends : (fuel : ℕ) (bytes : List ℕ) → length bytes < fuel → Walks bytes
walk_ends zero bytes short = absurd (omega arith)
walk_ends (suc fuel) bytes short = by_unit (unit_at bytes) refl (λ next unit. walk_ends fuel next (omega (arith, unit_shorter (unit_is bytes next unit).1)))
  where
    by_unit : (o : Result (List ℕ) Stop) → unit_at bytes ≡ o → ((next : List ℕ) → unit_at bytes ≡ Ok next → Walks next) → Walks bytes
    by_unit (Ok next) is walks = let others = walks next is in let first = unit_is bytes next is in (first.0 ∷ others.0, others.1, more first.1 others.2, others.3, others.4)
    by_unit (Err stop) is walks = ([], bytes, none, stop, is)

-- ---- a lexeme or a fault stands at the start

abbrev HasLexemeOrFault : List ℕ → Type 0
HasLexemeOrFault bytes = ((k : Option Kind) × (rest : List ℕ) × IsLexeme bytes k rest) ⊎ ((from : List ℕ) × (why : LexWhy) × IsFault bytes from why)

text_outcome : (bytes : List ℕ) → begins is_quote bytes ≡ true → HasLexemeOrFault bytes
text_outcome bytes quote = by_stop (walk_ends (suc (length bytes)) (drop 1 bytes) (omega (arith, ap length prefix)))
  where
    prefix : bytes ≡ 34 ∷ drop 1 bytes
    prefix = quote_prefix bytes quote

    by_walk : (spelled rest : List ℕ) (stop : Stop) → UnitsSpell spelled (drop 1 bytes) rest → unit_at rest ≡ Err stop → HasLexemeOrFault bytes
    by_walk spelled rest Quote walk is = inl (Some kind.Text, drop 1 rest, text_lexeme bytes (drop 1 rest) (spelled, (drop 1 bytes, prefix, subst (UnitsSpell spelled (drop 1 bytes)) (quote_is rest is) walk)))
    by_walk spelled rest Cut walk is = inr (bytes, OpenText, open_text prefix walk (cut_is rest is))
    by_walk spelled rest Spoilt walk is = inr (rest, BadByte, bad_escape prefix walk (spoilt_is rest is))

    by_stop : Walks (drop 1 bytes) → HasLexemeOrFault bytes
    by_stop walks = by_walk walks.0 walks.1 walks.3 walks.2 walks.4

token_outcome : (bytes : List ℕ) → bytes ≢ [] → after_trivia bytes ≡ None → begins_comment bytes ≡ false → begins is_quote bytes ≡ false → (o : Option Candidate) → token_at bytes ≡ o → HasLexemeOrFault bytes
token_outcome bytes some no_trivia no_comment no_quote None is = inr (bytes, BadByte, none_bad bytes some no_trivia no_comment no_quote is)
token_outcome bytes some no_trivia no_comment no_quote (Some found) is =
    elim (cases_Bool (sound_candidate found)) [
      | inl sound ↦ inl (Some found.0, found.2, found_lexeme bytes found is sound)
      | inr unsound ↦ inr (bytes, BadNumber, found_bad bytes found is unsound)
    ]

other_outcome : (bytes : List ℕ) → bytes ≢ [] → after_trivia bytes ≡ None → HasLexemeOrFault bytes
other_outcome bytes some no_trivia =
    elim (cases_Bool (begins is_quote bytes)) [
      | inl quote ↦ text_outcome bytes quote
      | inr no_quote ↦
          elim (cases_Bool (begins_comment bytes)) [
            | inl comment ↦ inr (bytes, OpenComment, comment_bad bytes comment no_trivia)
            | inr no_comment ↦ token_outcome bytes some no_trivia no_comment no_quote (token_at bytes) refl
          ]
    ]

outcome : (bytes : List ℕ) → bytes ≢ [] → (o : Option (List ℕ)) → after_trivia bytes ≡ o → HasLexemeOrFault bytes
outcome bytes some None is = other_outcome bytes some is
outcome bytes some (Some rest) is = inl (None, rest, trivia (trivia_is bytes rest is))

-- ---- a whole text

abbrev Ends : ℕ → List ℕ → Type 0
Ends size bytes = (tokens : List Token) × (rest : List ℕ) × AreLexemes size bytes tokens rest × ((rest ≡ []) ⊎ ((from : List ℕ) × (why : LexWhy) × IsFault rest from why))

one_more : (size : ℕ) (bytes next : List ℕ) (k : Option Kind) → IsLexeme bytes k next → Ends size next → Ends size bytes
one_more size bytes next None lexeme ends = (ends.0, ends.1, then_trivia lexeme ends.2, ends.3)
one_more size bytes next (Some k) lexeme ends = (token_between size k bytes next ∷ ends.0, ends.1, then_token lexeme ends.2, ends.3)

lexemes_end : (fuel size : ℕ) (bytes : List ℕ) → length bytes < fuel → Ends size bytes
lexemes_end zero size bytes short = absurd (omega arith)
lexemes_end (suc fuel) size [] short = ([], [], no_more, inl refl)
lexemes_end (suc fuel) size (b ∷ bytes) short =
    elim (outcome (b ∷ bytes) (λ nil. cc) (after_trivia (b ∷ bytes)) refl) [
      | inl lexeme ↦ one_more size (b ∷ bytes) lexeme.1 lexeme.0 lexeme.2 (lexemes_end fuel size lexeme.1 (omega (arith, lexeme_shorter lexeme.2)))
      | inr fault ↦ ([], b ∷ bytes, no_more, inr fault)
    ]

pub some_outcome : (text : List ℕ) → ((tokens : List Token) × Tokens text tokens) ⊎ ((at : ℕ) × (why : LexWhy) × IsLexFault text at why)
some_outcome text = by_end (lexemes_end (suc (length text)) (length text) text (omega arith))
  where
    by_rest : (tokens : List Token) (rest : List ℕ) → AreLexemes (length text) text tokens rest → (rest ≡ []) ⊎ ((from : List ℕ) × (why : LexWhy) × IsFault rest from why)
        → ((tokens : List Token) × Tokens text tokens) ⊎ ((at : ℕ) × (why : LexWhy) × IsLexFault text at why)
    by_rest tokens rest are (inl nil) = inl (tokens, subst (AreLexemes (length text) text tokens) nil are)
    by_rest tokens rest are (inr fault) =
        inr (length text - length fault.0, fault.1, record { tokens = tokens; rest = rest; from = fault.0; before = are; fault = fault.2; offset = refl })

    by_end : Ends (length text) text → ((tokens : List Token) × Tokens text tokens) ⊎ ((at : ℕ) × (why : LexWhy) × IsLexFault text at why)
    by_end ends = by_rest ends.0 ends.1 ends.2 ends.3
