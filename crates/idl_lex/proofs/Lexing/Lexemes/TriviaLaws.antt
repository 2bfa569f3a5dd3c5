-- White space and comments: what is found stands at the start, and what stands there is found.
use Rattle.std.proofs.Common.{◌≡◌, ℕ, ◌<◌, true, false, eqb, ◌&&◌, not, List, [], ◌∷◌, ◌++◌, length, Option, Some, None, refl, sym, ap, ◌∙◌, subst, inl, inr, arith, append_assoc}
use Rattle.std.proofs.lemmas.Bool.{cases_Bool, and_parts, and_right, eqb-true, not-true}
use Rattle.std.specs.List.{list_all}
use Rattle.idl_lex.specs.Bytes.{begins, is_white, is_feed, IsCutOff}
use Rattle.idl_lex.specs.Trivia.{HasNoClose, IsTrivia}
use Rattle.idl_lex.specs.Trivia.IsTrivia.{white, line, block}
use Rattle.idl_lex.specs.LexSteps.{from_feed, after_close, after_slash, after_trivia}

-- ---- line comments

feed_over : (inside rest : List ℕ) → list_all (λ b. not (is_feed b)) inside ≡ true → from_feed (inside ++ rest) ≡ from_feed rest
feed_over [] rest all = refl
feed_over (b ∷ inside) rest all =
    let parts = and_parts (not (is_feed b)) (list_all (λ b. not (is_feed b)) inside) all in
    rw (not-true (is_feed b) parts.0) (feed_over inside rest parts.1)

feed_stays : (rest : List ℕ) → IsCutOff rest → from_feed rest ≡ rest
feed_stays [] off = refl
feed_stays (b ∷ rest) (inl nil) = absurd (cc)
feed_stays (b ∷ rest) (inr feed) = rw feed refl

feed_splits : (bytes : List ℕ) → (inside : List ℕ) × (bytes ≡ inside ++ from_feed bytes) × (list_all (λ b. not (is_feed b)) inside ≡ true) × IsCutOff (from_feed bytes)
feed_splits [] = ([], refl, refl, inl refl)
feed_splits (b ∷ rest) =
    elim (cases_Bool (is_feed b)) [
      | inl feed ↦ rw feed ([], refl, refl, inr feed)
      | inr other ↦
          let more = feed_splits rest in
          rw other (b ∷ more.0, ap (λ (t : List ℕ). b ∷ t) more.1, rw other more.2, more.3)
    ]

-- ---- block comments

-- no `*/` after the first byte either
close_tail : (a : ℕ) (bytes : List ℕ) → HasNoClose (a ∷ bytes) → HasNoClose bytes
close_tail a bytes unclosed prefix back same = unclosed (a ∷ prefix) back (ap (λ (t : List ℕ). a ∷ t) same)

-- no `*/` at the first byte
close_not_here : (a : ℕ) (inside rest : List ℕ) → HasNoClose (a ∷ inside) → (eqb a 42 && begins (λ c. eqb c 47) (inside ++ (42 ∷ 47 ∷ rest))) ≡ false
close_not_here a [] rest unclosed = and_right (eqb a 42) false refl
close_not_here a (b ∷ inside) rest unclosed =
    elim (cases_Bool (eqb a 42 && eqb b 47)) [
      | inl both ↦
          let parts = and_parts (eqb a 42) (eqb b 47) both in
          let first = eqb-true a 42 parts.0 in
          let second = eqb-true b 47 parts.1 in
          absurd (unclosed [] inside (cc))
      | inr other ↦ other
    ]

close_found : (inside rest : List ℕ) → HasNoClose inside → after_close (inside ++ (42 ∷ 47 ∷ rest)) ≡ Some rest
close_found [] rest unclosed = refl
close_found (a ∷ inside) rest unclosed = rw (close_not_here a inside rest unclosed) (close_found inside rest (close_tail a inside unclosed))

-- where the first byte begins no `*/`, it may come before what has none
close_more : (a : ℕ) (bytes : List ℕ) → (eqb a 42 && begins (λ c. eqb c 47) bytes) ≡ false → HasNoClose bytes → HasNoClose (a ∷ bytes)
close_more a bytes other unclosed [] back same =
    let first : a ≡ 42 = cc in
    let second : bytes ≡ 47 ∷ back = cc in
    cc (other, ap (λ (t : List ℕ). eqb a 42 && begins (λ c. eqb c 47) t) second, ap (λ (n : ℕ). eqb n 42 && true) first)
close_more a bytes other unclosed (f ∷ prefix) back same = let tail : bytes ≡ prefix ++ (42 ∷ 47 ∷ back) = cc in unclosed prefix back tail

nil_unclosed : HasNoClose []
nil_unclosed [] back same = cc
nil_unclosed (f ∷ prefix) back same = cc

-- what is found, on the bytes
abbrev Closes : Option (List ℕ) → List ℕ → Type 0
Closes None bytes = HasNoClose bytes
Closes (Some rest) bytes = (inside : List ℕ) × (bytes ≡ inside ++ (42 ∷ 47 ∷ rest)) × HasNoClose inside

close_cons : (a : ℕ) (inside rest : List ℕ) → (eqb a 42 && begins (λ c. eqb c 47) (inside ++ (42 ∷ 47 ∷ rest))) ≡ false → HasNoClose inside → HasNoClose (a ∷ inside)
close_cons a [] rest other unclosed = close_more a [] (and_right (eqb a 42) false refl) unclosed
close_cons a (b ∷ inside) rest other unclosed = close_more a (b ∷ inside) other unclosed

closes_more : (a : ℕ) (bytes : List ℕ) (o : Option (List ℕ)) → (eqb a 42 && begins (λ c. eqb c 47) bytes) ≡ false → Closes o bytes → Closes o (a ∷ bytes)
closes_more a bytes None other closes = close_more a bytes other closes
closes_more a bytes (Some rest) other closes =
    let same_test : (eqb a 42 && begins (λ c. eqb c 47) (closes.0 ++ (42 ∷ 47 ∷ rest))) ≡ false = ap (λ (t : List ℕ). eqb a 42 && begins (λ c. eqb c 47) t) (sym closes.1) ∙ other in
    (a ∷ closes.0, ap (λ (t : List ℕ). a ∷ t) closes.1, close_cons a closes.0 rest same_test closes.2)

close_is : (bytes : List ℕ) → Closes (after_close bytes) bytes
close_is [] = nil_unclosed
close_is (a ∷ []) =
    elim (cases_Bool (eqb a 42)) [
      | inl star ↦ rw star (close_more a [] (and_right (eqb a 42) false refl) nil_unclosed)
      | inr other ↦ rw other (close_more a [] (and_right (eqb a 42) false refl) nil_unclosed)
    ]
close_is (a ∷ b ∷ rest) =
    elim (cases_Bool (eqb a 42 && eqb b 47)) [
      | inl both ↦
          let parts = and_parts (eqb a 42) (eqb b 47) both in
          let first = eqb-true a 42 parts.0 in
          let second = eqb-true b 47 parts.1 in
          rw both ([], cc, nil_unclosed)
      | inr other ↦ rw other (closes_more a (b ∷ rest) (after_close (b ∷ rest)) other (close_is (b ∷ rest)))
    ]

pub unclosed_is : (bytes : List ℕ) → after_close bytes ≡ None → HasNoClose bytes
unclosed_is bytes found = subst (λ (o : Option (List ℕ)). Closes o bytes) found (close_is bytes)

pub unclosed_found : (bytes rest : List ℕ) → HasNoClose bytes → after_close bytes ≡ Some rest → ⊥
unclosed_found bytes rest unclosed found =
    let closes = subst (λ (o : Option (List ℕ)). Closes o bytes) found (close_is bytes) in
    unclosed closes.0 rest closes.1

-- ---- trivia

-- what stands at the start is found
pub trivia_found : {bytes rest : List ℕ} → IsTrivia bytes rest → after_trivia bytes ≡ Some rest
trivia_found (white w) = rw w refl
trivia_found {rest = rest} (line inside same all off) = ap after_trivia same ∙ ap Some (feed_over inside rest all ∙ feed_stays rest off)
trivia_found {rest = rest} (block inside same unclosed) = ap after_trivia same ∙ close_found inside rest unclosed

abbrev TriviaShape : Option (List ℕ) → List ℕ → Type 0
TriviaShape None bytes = Unit {0}
TriviaShape (Some rest) bytes = IsTrivia bytes rest

block_shape : (bytes : List ℕ) (o : Option (List ℕ)) → Closes o bytes → TriviaShape o (47 ∷ 42 ∷ bytes)
block_shape bytes None closes = tt
block_shape bytes (Some rest) closes = block closes.0 (ap (λ (t : List ℕ). 47 ∷ 42 ∷ t) closes.1) closes.2

slash_shape : (rest : List ℕ) → TriviaShape (after_slash rest) (47 ∷ rest)
slash_shape [] = tt
slash_shape (b ∷ rest) =
    elim (cases_Bool (eqb b 47)) [
      | inl slash ↦
          let splits = feed_splits rest in
          let second = eqb-true b 47 slash in
          let same : 47 ∷ b ∷ rest ≡ 47 ∷ 47 ∷ (splits.0 ++ from_feed rest) = ap (λ (c : ℕ). 47 ∷ c ∷ rest) second ∙ ap (λ (t : List ℕ). 47 ∷ 47 ∷ t) splits.1 in
          rw slash (line splits.0 same splits.2 splits.3)
      | inr no_slash ↦
          elim (cases_Bool (eqb b 42)) [
            | inl star ↦
                rw (no_slash, star) (subst (λ (c : ℕ). TriviaShape (after_close rest) (47 ∷ c ∷ rest)) (sym (eqb-true b 42 star)) (block_shape rest (after_close rest) (close_is rest)))
            | inr other ↦ rw (no_slash, other) tt
          ]
    ]

trivia_shape : (bytes : List ℕ) → TriviaShape (after_trivia bytes) bytes
trivia_shape [] = tt
trivia_shape (b ∷ rest) =
    elim (cases_Bool (is_white b)) [
      | inl w ↦ rw w (white w)
      | inr no_white ↦
          elim (cases_Bool (eqb b 47)) [
            | inl slash ↦ rw (no_white, slash) (subst (λ (c : ℕ). TriviaShape (after_slash rest) (c ∷ rest)) (sym (eqb-true b 47 slash)) (slash_shape rest))
            | inr other ↦ rw (no_white, other) tt
          ]
    ]

-- what is found stands at the start
pub trivia_is : (bytes rest : List ℕ) → after_trivia bytes ≡ Some rest → IsTrivia bytes rest
trivia_is bytes rest found = subst (λ (o : Option (List ℕ)). TriviaShape o bytes) found (trivia_shape bytes)

-- what is left of trivia's bytes is an end of them, and not all
pub trivia_prefix : {bytes rest : List ℕ} → IsTrivia bytes rest → (gone : List ℕ) × (bytes ≡ gone ++ rest) × (0 < length gone)
trivia_prefix (white {b = b} w) = (b ∷ [], refl, omega arith)
trivia_prefix (line inside same all off) = (47 ∷ 47 ∷ inside, same, omega arith)
trivia_prefix {rest = rest} (block inside same unclosed) = (47 ∷ 42 ∷ (inside ++ (42 ∷ 47 ∷ [])), same ∙ ap (λ (t : List ℕ). 47 ∷ 42 ∷ t) (sym (append_assoc inside (42 ∷ 47 ∷ []) rest)), omega arith)
