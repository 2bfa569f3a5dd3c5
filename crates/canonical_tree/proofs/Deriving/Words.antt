-- The words of names and numbers have their forms, and say what they were written for.
use Rattle.std.proofs.Common.{◌≡◌, ◌≢◌, ◌<◌, ◌^◌, ℕ, ℤ, zero, suc, pos, negsuc, true, false, ◌==◌, List, [], ◌∷◌, length, refl, sym, ap, ◌∙◌, subst, inl, inr, arith, decimal, slice_index}
use Rattle.std.proofs.lemmas.Bool.Decides.{nat_tests}
use Rattle.std.proofs.lemmas.Fmt.{digits_decimal, digits_value-decimal, decimal_nonempty}
use Rattle.std.proofs.lemmas.List.Elements.{recursion_from_All}
use Rattle.std.proofs.lemmas.Str.Parse.{numerals_by_value, tells_digits}
use Rattle.std.specs.Char.{is_digit, digit_value, is_ascii_alphabetic}
use Rattle.std.specs.Fmt.{signed_decimal}
use Rattle.std.specs.List.{AllByRecursion, list_all}
use Rattle.std.specs.Str.Parse.{AllDigits}
use Rattle.tars_model.specs.Names.{keywords, begins_word, IsName}
use Rattle.tars_model.specs.Values.{is_signed}
use Rattle.idl_lex.specs.Bytes.{begins}
use Rattle.idl_lex.specs.Forms.{IsForm, IsWhole, magnitude}
use Rattle.idl_lex.specs.Meanings.{negative, whole_number}
use Rattle.idl_lex.specs.Spellings.{keyword_text}
use Rattle.idl_parse.specs.TreeSpans.{StandsAt}
use Rattle.idl_lex.specs.declared.keyword.Keyword.{Keyword}
use Rattle.idl_lex.specs.declared.keyword.Keyword.TheVariants as words
use Rattle.idl_lex.specs.declared.kind.Kind.{Kind}
use Rattle.idl_lex.specs.declared.kind.Kind.TheVariants as kinds
use Rattle.idl_lex.specs.declared.span.Span.{Span}
use Rattle.canonical_tree.specs.Says.{NameSays, NumberSays}
use Rattle.canonical_tree.proofs.Deriving.Kit.{WordAt}

pub word_stands : {text word : List ℕ} {at : Span} (kind : Kind) → IsForm kind word → 0 < length word → WordAt text word at → StandsAt text kind at
word_stands kind form some is = (omega (arith, is.long), is.within, subst (IsForm kind) (sym is.is) form)

-- ---- names

some_letter : (word : List ℕ) → begins_word word ≡ true → (begins is_ascii_alphabetic word ≡ true) × (0 < length word)
some_letter [] e = absurd cc
some_letter (b ∷ rest) e = (e, omega arith)

no_keyword : (word : List ℕ) → AllByRecursion (λ keyword. word ≢ keyword) keywords → (k : Keyword) → word ≢ keyword_text k
no_keyword word all words.Void = all.0
no_keyword word all words.Struct = all.1.0
no_keyword word all words.Bool = all.1.1.0
no_keyword word all words.Byte = all.1.1.1.0
no_keyword word all words.Short = all.1.1.1.1.0
no_keyword word all words.Int = all.1.1.1.1.1.0
no_keyword word all words.Long = all.1.1.1.1.1.1.0
no_keyword word all words.Float = all.1.1.1.1.1.1.1.0
no_keyword word all words.Double = all.1.1.1.1.1.1.1.1.0
no_keyword word all words.String = all.1.1.1.1.1.1.1.1.1.0
no_keyword word all words.Vector = all.1.1.1.1.1.1.1.1.1.1.0
no_keyword word all words.Map = all.1.1.1.1.1.1.1.1.1.1.1.0
no_keyword word all words.Key = all.1.1.1.1.1.1.1.1.1.1.1.1.0
no_keyword word all words.Routekey = all.1.1.1.1.1.1.1.1.1.1.1.1.1.0
no_keyword word all words.Module = all.1.1.1.1.1.1.1.1.1.1.1.1.1.1.0
no_keyword word all words.Interface = all.1.1.1.1.1.1.1.1.1.1.1.1.1.1.1.0
no_keyword word all words.Out = all.1.1.1.1.1.1.1.1.1.1.1.1.1.1.1.1.0
no_keyword word all words.Require = all.1.1.1.1.1.1.1.1.1.1.1.1.1.1.1.1.1.0
no_keyword word all words.Optional = all.1.1.1.1.1.1.1.1.1.1.1.1.1.1.1.1.1.1.0
no_keyword word all words.False = all.1.1.1.1.1.1.1.1.1.1.1.1.1.1.1.1.1.1.1.0
no_keyword word all words.True = all.1.1.1.1.1.1.1.1.1.1.1.1.1.1.1.1.1.1.1.1.0
no_keyword word all words.Enum = all.1.1.1.1.1.1.1.1.1.1.1.1.1.1.1.1.1.1.1.1.1.0
no_keyword word all words.Const = all.1.1.1.1.1.1.1.1.1.1.1.1.1.1.1.1.1.1.1.1.1.1.0
no_keyword word all words.Unsigned = all.1.1.1.1.1.1.1.1.1.1.1.1.1.1.1.1.1.1.1.1.1.1.1.0

pub name_form : (word : List ℕ) → IsName word → IsForm kinds.Ident word
name_form word is = (((some_letter word is.identifier.letter).0, is.identifier.bytes), no_keyword word (recursion_from_All (λ keyword. word ≢ keyword) keywords is.identifier.no_keyword))

pub name_says : {text word : List ℕ} {at : Span} → IsName word → WordAt text word at → NameSays text word at
name_says {word = word} is at = record { stands = word_stands kinds.Ident (name_form word is) (some_letter word is.identifier.letter).1 at; is = at.is }

-- ---- numbers

pub pass_digits : (digits : List ℕ) → AllDigits 10 digits → list_all (λ c. is_digit c 10) digits ≡ true
pass_digits [] all = refl
pass_digits (c ∷ digits) all = rw (digit_passes c all.0) (pass_digits digits all.1)
  where
    digit_passes : (c : ℕ) → digit_value c < 10 → is_digit c 10 ≡ true
    digit_passes c small = grind (arith, nat_tests)

pub all_digits : (n : ℕ) → n < 2 ^ 64 → AllDigits 10 (decimal n)
all_digits n small = digits_decimal (numerals_by_value _ tells_digits) n small

-- a digit is neither the minus nor the `x`
no_sign : (digits : List ℕ) (i : ℕ) → AllDigits 10 digits → ((slice_index digits i == 45) ≡ false) × ((slice_index digits i == 120) ≡ false)
no_sign [] i all = (refl, refl)
no_sign (c ∷ digits) zero all = (no_minus c all.0, no_x c all.0)
  where
    no_minus : (c : ℕ) → digit_value c < 10 → (c == 45) ≡ false
    no_minus c small = grind (arith, nat_tests)

    no_x : (c : ℕ) → digit_value c < 10 → (c == 120) ≡ false
    no_x c small = grind (arith, nat_tests)
no_sign (c ∷ digits) (suc i) all = no_sign digits i all.1

decimal_magnitude : (n : ℕ) → n < 2 ^ 64 → magnitude (decimal n) ≡ n
decimal_magnitude n small = rw ((no_sign (decimal n) 1 (all_digits n small)).1) (digits_value-decimal (numerals_by_value _ tells_digits) n small)

decimal_form : (n : ℕ) → n < 2 ^ 64 → IsWhole (decimal n)
decimal_form n small = inl (decimal_nonempty n small, pass_digits (decimal n) (all_digits n small))

decimal_means : (n : ℕ) → n < 2 ^ 64 → whole_number (decimal n) ≡ pos n
decimal_means n small = rw ((no_sign (decimal n) 0 (all_digits n small)).0) (ap pos (decimal_magnitude n small))

pub decimal_says : {text : List ℕ} {at : Span} (n : ℕ) → n < 2 ^ 64 → WordAt text (decimal n) at → NumberSays text (pos n) at
decimal_says n small at = record { stands = word_stands kinds.Number (inl (decimal_form n small)) (decimal_nonempty n small) at; is = ap whole_number at.is ∙ decimal_means n small }

-- a number of at most 64 bits with its sign
abbrev pub IsLong : ℤ → Type 0
IsLong n = is_signed 63 n ≡ true

signed_form : (n : ℤ) → IsLong n → IsForm kinds.Number (signed_decimal n) × (0 < length (signed_decimal n)) × (whole_number (signed_decimal n) ≡ n)
signed_form (pos n) long = let small : n < 2 ^ 64 = grind (arith, nat_tests) in (inl (decimal_form n small), decimal_nonempty n small, decimal_means n small)
signed_form (negsuc n) long =
    let small : suc n < 2 ^ 64 = grind (arith, nat_tests) in
    (inr (decimal (suc n), refl, decimal_form (suc n) small), omega arith, ap negative (decimal_magnitude (suc n) small))

pub number_says : {text : List ℕ} {at : Span} (n : ℤ) → IsLong n → WordAt text (signed_decimal n) at → NumberSays text n at
number_says n long at = let form = signed_form n long in record { stands = word_stands kinds.Number form.0 form.1 at; is = ap whole_number at.is ∙ form.2 }
