-- The longest token at the start of bytes: it is the one that is found, and the only one.
use Rattle.std.proofs.Common.{◌≡◌, ◌⊎◌, ℕ, ◌≤◌, true, false, eqb, ◌||◌, List, [], ◌∷◌, ◌++◌, length, take, drop, Option, Some, None, refl, sym, ap, ◌∙◌, subst, inl, inr, arith, append_assoc, length-append}
use Rattle.std.proofs.lemmas.Bool.{cases_Bool, or_cases, eqb-true}
use Rattle.std.proofs.lemmas.List.{take_at, drop_at}
use Rattle.idl_lex.specs.declared.kind.Kind.{Kind}
use Rattle.idl_lex.specs.declared.kind.Kind.TheVariants as kind
use Rattle.idl_lex.specs.Bytes.{begins, is_white, is_quote}
use Rattle.idl_lex.specs.Forms.{IsForm}
use Rattle.idl_lex.specs.Texts.{UnitsSpell, IsTextPrefix}
use Rattle.idl_lex.specs.Tokens.{IsLongest, HasNoToken}
use Rattle.idl_lex.specs.LexSteps.{after_trivia, Candidate, sign_of, sign_at, token_at}
use Rattle.idl_lex.proofs.Lexing.Lexemes.Dominating.{Dominates, IsFound, Finds}
use Rattle.idl_lex.proofs.Lexing.Words.CandidateLaws.{AnyDominates, any_dominates, either_dominates, token_finds}
use Rattle.idl_lex.proofs.Lexing.Strings.TextLaws.{units_same, units_split, quote_stops}

-- ---- what is found is longest

-- a token at the start, against what is found there
pub in_prefix : (bytes : List ℕ) (k : Kind) (word rest : List ℕ) → bytes ≡ word ++ rest → IsForm k word → ((k ≡ kind.Text) × (token_at bytes ≡ None)) ⊎ Dominates (token_at bytes) k rest
in_prefix bytes k word rest prefix form =
    subst (λ (t : List ℕ). ((k ≡ kind.Text) × (token_at t ≡ None)) ⊎ Dominates (token_at t) k rest) (sym prefix) (either_dominates (token_at (word ++ rest)) k rest (any_dominates k word rest form))

-- no shorter rest, no longer word
longer_word : (word rest longer more : List ℕ) → word ++ rest ≡ longer ++ more → length rest ≤ length more → length longer ≤ length word
longer_word word rest longer more same h =
    omega (arith, length-append word rest, length-append longer more, ap length same)

pub found_longest : (bytes : List ℕ) (found : Candidate) → token_at bytes ≡ Some found → (is : IsFound found bytes) → IsLongest found.0 is.word bytes found.2
found_longest bytes found some is = record {
  prefix = is.prefix;
  form = is.form;
  longest = λ other longer more prefix form.
      elim (in_prefix bytes other longer more prefix form) [
        | inl text ↦ absurd (cc (some, text.1))
        | inr dominates ↦
            let less = subst (λ (o : Option Candidate). Dominates o other more) some dominates in
            longer_word is.word found.2 longer more (sym is.prefix ∙ prefix) less.0
      ];
}

pub found_is : (bytes : List ℕ) (found : Candidate) → token_at bytes ≡ Some found → IsFound found bytes
found_is bytes found some = subst (λ (o : Option Candidate). Finds o bytes) some (token_finds bytes)

-- where none is found and no quote stands, there is none
pub none_found : (bytes : List ℕ) → token_at bytes ≡ None → begins is_quote bytes ≡ false → HasNoToken bytes
none_found bytes none no_quote k word rest prefix form =
    elim (in_prefix bytes k word rest prefix form) [
      | inl text ↦ text_quoted k word prefix form text.0
      | inr dominates ↦ subst (λ (o : Option Candidate). Dominates o k rest) none dominates
    ]
  where
    text_quoted : (k : Kind) (word : List ℕ) → bytes ≡ word ++ rest → IsForm k word → k ≡ kind.Text → ⊥
    text_quoted k word prefix form text =
        let is : IsForm kind.Text word = subst (λ (j : Kind). IsForm j word) text form in
        let bytes_are : bytes ≡ 34 ∷ (is.1.0 ++ rest) = prefix ∙ ap (λ (t : List ℕ). t ++ rest) is.1.1 in
        cc (no_quote, ap (begins is_quote) bytes_are)

-- a text: none is found at a quote
pub quote_none : (inside : List ℕ) → token_at (34 ∷ inside) ≡ None
unfolding token_at sign_at sign_of
quote_none inside = refl

-- a text at the start is walked from its quote on
pub text_walks : (bytes inside word more : List ℕ) → bytes ≡ 34 ∷ inside → bytes ≡ word ++ more → (form : IsForm kind.Text word) → UnitsSpell form.0 inside (34 ∷ more)
text_walks bytes inside word more quote prefix (spelled, form) =
    let split = units_split form.2 in
    let whole : 34 ∷ inside ≡ 34 ∷ (split.0 ++ (34 ∷ more)) =
    sym quote ∙ prefix ∙ ap (λ (t : List ℕ). t ++ more) form.1 ∙ ap (λ (t : List ℕ). 34 ∷ (t ++ more)) split.1 ∙ ap (λ (t : List ℕ). 34 ∷ t) (append_assoc split.0 (34 ∷ []) more) in
    let same : split.0 ++ (34 ∷ more) ≡ inside = cc in
    subst (λ (t : List ℕ). UnitsSpell spelled t (34 ∷ more)) same (split.2 (34 ∷ more))

-- every text at the start ends at the same quote
text_rest : (bytes rest : List ℕ) → IsTextPrefix bytes rest → (word more : List ℕ) → bytes ≡ word ++ more → IsForm kind.Text word → more ≡ rest
text_rest bytes rest is word more prefix form =
    let same = (units_same (text_walks bytes is.1.0 word more is.1.1 prefix form) is.1.2 (quote_stops more) (quote_stops rest)).0 in
    cc

pub text_longest : (bytes rest : List ℕ) → IsTextPrefix bytes rest → (word : List ℕ) × IsLongest kind.Text word bytes rest
text_longest bytes rest (spelled, is) =
    let split = units_split is.2 in
    let word = 34 ∷ (split.0 ++ (34 ∷ [])) in
    let prefix : bytes ≡ word ++ rest = is.1 ∙ ap (λ (t : List ℕ). 34 ∷ t) (split.1 ∙ sym (append_assoc split.0 (34 ∷ []) rest)) in (
      word,
      record {
        prefix = prefix;
        form = (spelled, (split.0 ++ (34 ∷ []), refl, split.2 (34 ∷ [])));
        longest = λ other longer more other_prefix form.
            elim (in_prefix bytes other longer more other_prefix form) [
              | inl text ↦
                  let is_text : IsForm kind.Text longer = subst (λ (j : Kind). IsForm j longer) text.0 form in
                  let same = text_rest bytes rest (spelled, is) longer more other_prefix is_text in
                  longer_word word rest longer more (sym prefix ∙ other_prefix) (omega (arith, ap length same))
              | inr dominates ↦
                  absurd (subst (λ (o : Option Candidate). Dominates o other more) (ap token_at is.1 ∙ quote_none is.0) dominates)
            ];
      },
    )

-- ---- the longest token is one

same_kind : (o : Option Candidate) (j k : Kind) → AnyDominates o j [] → AnyDominates o k [] → j ≡ k
same_kind o j k a b = by_views o (either_dominates o j [] a) (either_dominates o k [] b)
  where
    by_views : (o : Option Candidate) → ((j ≡ kind.Text) × (o ≡ None)) ⊎ Dominates o j [] → ((k ≡ kind.Text) × (o ≡ None)) ⊎ Dominates o k [] → j ≡ k
    by_views o (inl text) (inl also) = text.0 ∙ sym also.0
    by_views None (inl text) (inr none) = absurd none
    by_views None (inr none) also = absurd none
    by_views (Some found) (inl text) (inr one) = absurd (cc (text.1))
    by_views (Some found) (inr one) (inl text) = absurd (cc (text.1))
    by_views (Some found) (inr one) (inr other) =
        let all : length found.2 ≡ 0 = omega (arith, one.0) in
        sym (one.1 all) ∙ other.1 all

pub one_longest : (bytes : List ℕ) (j k : Kind) (v w r s : List ℕ) → IsLongest j v bytes r → IsLongest k w bytes s → (j ≡ k) × (v ≡ w) × (r ≡ s)
one_longest bytes j k v w r s a b =
    let same_length : length v ≡ length w = omega (arith, a.longest k w s b.prefix b.form, b.longest j v r a.prefix a.form) in
    let words : v ≡ w = sym (take_at v r (length v) refl) ∙ ap (take (length v)) (sym a.prefix ∙ b.prefix) ∙ take_at w s (length v) (sym same_length) in
    let rests : r ≡ s = sym (drop_at v r (length v) refl) ∙ ap (drop (length v)) (sym a.prefix ∙ b.prefix) ∙ drop_at w s (length v) (sym same_length) in
    let of_k : AnyDominates (token_at (v ++ [])) k [] = subst (λ (t : List ℕ). AnyDominates (token_at (t ++ [])) k []) (sym words) (any_dominates k w [] b.form) in
    (same_kind (token_at (v ++ [])) j k (any_dominates j v [] a.form) of_k, words, rests)

-- ---- trivia and comments begin no token

-- the byte before trivia
trivia_first : (b : ℕ) (rest next : List ℕ) → after_trivia (b ∷ rest) ≡ Some next → (is_white b ≡ true) ⊎ (b ≡ 47)
trivia_first b rest next trivia =
    elim (cases_Bool (is_white b)) [
      | inl white ↦ inl white
      | inr no_white ↦
          elim (cases_Bool (eqb b 47)) [
            | inl slash ↦ inr (eqb-true b 47 slash)
            | inr other ↦ absurd (cc (rw (no_white, other) at trivia))
          ]
    ]

white_cases : (b : ℕ) → is_white b ≡ true → ((b ≡ 32) ⊎ (b ≡ 9)) ⊎ ((b ≡ 13) ⊎ (b ≡ 10))
white_cases b white =
    elim (or_cases ((eqb b 32 || eqb b 9) || eqb b 13) (eqb b 10) white) [
      | inr feed ↦ inr (inr (eqb-true b 10 feed))
      | inl others ↦
          elim (or_cases (eqb b 32 || eqb b 9) (eqb b 13) others) [
            | inr return ↦ inr (inl (eqb-true b 13 return))
            | inl blank ↦
                elim (or_cases (eqb b 32) (eqb b 9) blank) [
                  | inl space ↦ inl (inl (eqb-true b 32 space))
                  | inr tab ↦ inl (inr (eqb-true b 9 tab))
                ]
          ]
    ]

white_none : (b : ℕ) (rest : List ℕ) → ((b ≡ 32) ⊎ (b ≡ 9)) ⊎ ((b ≡ 13) ⊎ (b ≡ 10)) → (token_at (b ∷ rest) ≡ None) × (is_quote b ≡ false)
unfolding token_at sign_at sign_of
white_none b rest (inl (inl e)) = rw e (refl, refl)
white_none b rest (inl (inr e)) = rw e (refl, refl)
white_none b rest (inr (inl e)) = rw e (refl, refl)
white_none b rest (inr (inr e)) = rw e (refl, refl)

slash_none : (rest : List ℕ) → token_at (47 ∷ rest) ≡ None
unfolding token_at sign_at sign_of
slash_none rest = refl

-- no token stands where trivia does
pub trivia_no_token : (bytes next : List ℕ) → after_trivia bytes ≡ Some next → HasNoToken bytes
trivia_no_token [] next trivia = absurd (cc)
trivia_no_token (b ∷ rest) next trivia =
    elim (trivia_first b rest next trivia) [
      | inl white ↦ let none = white_none b rest (white_cases b white) in none_found (b ∷ rest) none.0 none.1
      | inr slash ↦ none_found (b ∷ rest) (ap (λ (c : ℕ). token_at (c ∷ rest)) slash ∙ slash_none rest) (ap is_quote slash)
    ]

-- nor at a slash
pub slash_no_token : (rest : List ℕ) → HasNoToken (47 ∷ rest)
slash_no_token rest = none_found (47 ∷ rest) (slash_none rest) refl
