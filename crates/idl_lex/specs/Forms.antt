-- The forms of tokens (docs/IDL.md, "Tokens"), by their kinds.
use Rattle.std.specs.Prelude.{◌≡◌, ◌≢◌, ℕ, ◌-◌, ◌^◌, ◌<◌, ◌==◌, nat_le, ◌⊎◌, Bool, true, not, ◌&&◌, if◌then◌else◌, List, [], ◌++◌, length, drop, slice_index, codes}
use Rattle.std.specs.List.{list_all}
use Rattle.std.specs.Char.{is_ascii_alphabetic, is_digit}
use Rattle.std.specs.Str.Parse.{digits_value}
use Rattle.idl_lex.specs.declared.keyword.Keyword.{Keyword}
use Rattle.idl_lex.specs.declared.kind.Kind.{Kind}
use Rattle.idl_lex.specs.declared.kind.Kind.TheVariants as kind
use Rattle.idl_lex.specs.Bytes.{begins, is_word_byte, is_letter_or_low}
use Rattle.idl_lex.specs.Spellings.{keyword_text, sign_text}
use Rattle.idl_lex.specs.Texts.{IsTextPrefix}

-- a letter, then letters, digits and `_`
abbrev pub IsWord : List ℕ → Type 0
IsWord word = (begins is_ascii_alphabetic word ≡ true) × (list_all is_word_byte word ≡ true)

-- one digit of the base or more, of either case
abbrev pub AreDigits : ℕ → List ℕ → Type 0
AreDigits base digits = (0 < length digits) × (list_all (λ c. is_digit c base) digits ≡ true)

-- decimal digits, or `0x` and hexadecimal digits
abbrev pub IsWhole : List ℕ → Type 0
IsWhole body = AreDigits 10 body ⊎ ((digits : List ℕ) × (body ≡ codes "0x" ++ digits) × AreDigits 16 digits)

-- decimal digits, a point, decimal digits
abbrev pub IsPointed : List ℕ → Type 0
IsPointed body = (whole : List ℕ) × (part : List ℕ) × (body ≡ whole ++ (codes "." ++ part)) × AreDigits 10 whole × AreDigits 10 part

-- alone, or after a minus
abbrev pub MayBeMinus : (List ℕ → Type 0) → List ℕ → Type 0
MayBeMinus Is word = Is word ⊎ ((body : List ℕ) × (word ≡ codes "-" ++ body) × Is body)

-- the bytes of a token of each kind
abbrev pub IsForm : Kind → List ℕ → Type 0
IsForm kind.Ident word = IsWord word × ((keyword : Keyword) → word ≢ keyword_text keyword)
IsForm (kind.Keyword keyword) word = word ≡ keyword_text keyword
IsForm kind.Number word = MayBeMinus IsWhole word
IsForm kind.Fraction word = MayBeMinus IsPointed word
IsForm kind.Text word = IsTextPrefix word []
IsForm kind.Include word = word ≡ codes "#include"
IsForm (kind.Sign sign) word = word ≡ sign_text sign

-- what a whole number without its minus stands for; an `x` is its second byte if it is hexadecimal
abbrev pub magnitude : List ℕ → ℕ
magnitude body = if slice_index body 1 == 120 then digits_value 16 (drop 2 body) else digits_value 10 body

-- from -2^63 to 2^63 - 1
abbrev pub is_in_range : List ℕ → Bool
is_in_range word =
    if slice_index word 0 == 45 then nat_le (magnitude (drop 1 word)) (2 ^ 63) else nat_le (magnitude word) (2 ^ 63 - 1)

-- a number is in its range, and no letter or `_` follows a number or fraction at once
abbrev pub is_sound : Kind → List ℕ → List ℕ → Bool
is_sound kind.Number word rest = is_in_range word && not (begins is_letter_or_low rest)
is_sound kind.Fraction word rest = not (begins is_letter_or_low rest)
is_sound _ word rest = true
