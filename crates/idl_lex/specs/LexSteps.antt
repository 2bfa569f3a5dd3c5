-- For the proofs: how a text is cut into lexemes, step by step, as the functions of the lexer do.
use Rattle.std.specs.Prelude.{◌≡◌, ℕ, ◌==◌, ◌^◌, ◌-◌, nat_le, if◌then◌else◌, Bool, true, false, ◌&&◌, ◌||◌, List, [], ◌∷◌, not, take, drop, slice_index, codes, Option, Some, None, Result, Ok, Err}
use Rattle.std.specs.List.{list_all}
use Rattle.std.specs.Option.{option_map}
use Rattle.std.specs.Char.{is_ascii_alphabetic, is_digit}
use Rattle.std.specs.Str.{bytes_eq}
use Rattle.std.specs.Str.Parse.{digits_value}
use Rattle.idl_lex.specs.declared.candidate.Candidate.{Candidate as Found}
use Rattle.idl_lex.specs.declared.kind.Kind.{Kind}
use Rattle.idl_lex.specs.declared.kind.Kind.TheVariants as kind
use Rattle.idl_lex.specs.declared.keyword.Keyword.{Keyword}
use Rattle.idl_lex.specs.declared.keyword.Keyword.TheVariants as words
use Rattle.idl_lex.specs.declared.sign.Sign.{Sign}
use Rattle.idl_lex.specs.declared.sign.Sign.TheVariants as sign
use Rattle.idl_lex.specs.declared.runs.Class.{Class}
use Rattle.idl_lex.specs.declared.runs.Class.TheVariants.{Word, Decimal, Hexadecimal, Line, LetterOrLow}
use Rattle.idl_lex.specs.declared.texts.Stop.{Stop}
use Rattle.idl_lex.specs.declared.texts.Stop.TheVariants.{Quote, Cut, Spoilt}
use Rattle.idl_lex.specs.Spellings.{keyword_text}
use Rattle.idl_lex.specs.Bytes.{begins, is_word_byte, is_letter_or_low, is_white, is_feed, is_escaped}

-- what a function returned, seen by view, is what the list gives
abbrev pub Gives : {X Y : Type 0} → (X → Y) → Option X → Option Y → Type 0
Gives view None found = found ≡ None
Gives view (Some x) found = found ≡ Some (view x)

abbrev pub GivesOk : {X Y E : Type 0} → (X → Y) → Result X E → Result Y E → Type 0
GivesOk view (Ok x) found = found ≡ Ok (view x)
GivesOk view (Err e) found = found ≡ Err e

-- ---- runs

-- the bytes of a class
abbrev pub is_in : Class → ℕ → Bool
is_in Word b = is_word_byte b
is_in Decimal b = is_digit b 10
is_in Hexadecimal b = is_digit b 16
is_in Line b = not (is_feed b)
is_in LetterOrLow b = is_letter_or_low b

-- the longest prefix of which each byte passes
abbrev pub run : (ℕ → Bool) → List ℕ → List ℕ
run test [] = []
run test (b ∷ rest) = if test b then b ∷ run test rest else []

-- what stands after it
abbrev pub after_run : (ℕ → Bool) → List ℕ → List ℕ
after_run test [] = []
after_run test (b ∷ rest) = if test b then after_run test rest else b ∷ rest

-- ---- trivia

-- the bytes from the first line feed on
abbrev pub from_feed : List ℕ → List ℕ
from_feed [] = []
from_feed (b ∷ rest) = if is_feed b then b ∷ rest else from_feed rest

-- what stands after the first `*/`
abbrev pub after_close : List ℕ → Option (List ℕ)
after_close [] = None
after_close (b ∷ rest) = if b == 42 && begins (λ c. c == 47) rest then Some (drop 1 rest) else after_close rest

-- what stands after the comment whose first `/` came before
abbrev pub after_slash : List ℕ → Option (List ℕ)
after_slash [] = None
after_slash (b ∷ rest) = if b == 47 then Some (from_feed rest) else (if b == 42 then after_close rest else None)

-- what stands after the white byte or the comment at the start
abbrev pub after_trivia : List ℕ → Option (List ℕ)
after_trivia [] = None
after_trivia (b ∷ rest) = if is_white b then Some rest else (if b == 47 then after_slash rest else None)

-- `/*` stands at the start
abbrev pub begins_comment : List ℕ → Bool
begins_comment [] = false
begins_comment (b ∷ rest) = b == 47 && begins (λ c. c == 42) rest

-- ---- tokens

-- a token at the start: its kind, whether a whole number is in its range, and what stands after it
abbrev pub Candidate : Type 0
Candidate = Kind × Bool × List ℕ

abbrev pub candidate_of : Found → Candidate
candidate_of found = (found.kind, found.in_range, found.rest.now)

-- a number that is found is in its range, and no letter or `_` follows it
abbrev pub sound_candidate : Candidate → Bool
sound_candidate (kind.Number, in_range, rest) = in_range && not (begins is_letter_or_low rest)
sound_candidate (kind.Fraction, in_range, rest) = in_range && not (begins is_letter_or_low rest)
sound_candidate found = true

abbrev pub keyword_among : List Keyword → List ℕ → Option Keyword
keyword_among [] word = None
keyword_among (keyword ∷ keywords) word =
    if bytes_eq (keyword_text keyword) word then Some keyword else keyword_among keywords word

abbrev pub all_keywords : List Keyword
all_keywords =
    words.Void ∷ words.Struct ∷ words.Bool ∷ words.Byte ∷ words.Short ∷ words.Int ∷ words.Long ∷ words.Float
    ∷ words.Double ∷ words.String ∷ words.Vector ∷ words.Map ∷ words.Key ∷ words.Routekey ∷ words.Module ∷ words.Interface
    ∷ words.Out ∷ words.Require ∷ words.Optional ∷ words.False ∷ words.True ∷ words.Enum ∷ words.Const ∷ words.Unsigned ∷ []

unfoldable pub keyword_of : List ℕ → Option Keyword
keyword_of word = keyword_among all_keywords word

abbrev pub kind_of : Option Keyword → Kind
kind_of None = kind.Ident
kind_of (Some keyword) = kind.Keyword keyword

unfoldable pub word_at : List ℕ → Candidate
word_at bytes = (kind_of (keyword_of (run is_word_byte bytes)), true, after_run is_word_byte bytes)

-- digits of the base that stand for at most this
unfoldable pub is_at_most : ℕ → ℕ → List ℕ → Bool
is_at_most base most digits = list_all (λ c. is_digit c base) digits && nat_le (digits_value base digits) most

-- after `0x`
unfoldable pub hexadecimal_at : ℕ → List ℕ → Candidate
hexadecimal_at most digits =
    (kind.Number, is_at_most 16 most (run (λ c. is_digit c 16) digits), after_run (λ c. is_digit c 16) digits)

-- a point and a digit
abbrev pub begins_part : List ℕ → Bool
begins_part rest = slice_index rest 0 == 46 && begins (λ c. is_digit c 10) (drop 1 rest)

unfoldable pub decimal_at : ℕ → List ℕ → Candidate
decimal_at most body =
    let rest = after_run (λ c. is_digit c 10) body in
    if begins_part rest then (kind.Fraction, true, after_run (λ c. is_digit c 10) (drop 1 rest))
    else (kind.Number, is_at_most 10 most (run (λ c. is_digit c 10) body), rest)

-- `0x` and a digit
abbrev pub begins_hexadecimal : List ℕ → Bool
begins_hexadecimal body = slice_index body 0 == 48 && slice_index body 1 == 120 && begins (λ c. is_digit c 16) (drop 2 body)

-- a number or fraction without its minus
unfoldable pub unsigned_at : ℕ → List ℕ → Option Candidate
unsigned_at most body =
    if begins_hexadecimal body then Some (hexadecimal_at most (drop 2 body))
    else (if begins (λ c. is_digit c 10) body then Some (decimal_at most body) else None)

unfoldable pub number_at : List ℕ → Option Candidate
number_at bytes = if slice_index bytes 0 == 45 then unsigned_at (2 ^ 63) (drop 1 bytes) else unsigned_at (2 ^ 63 - 1) bytes

unfoldable pub include_at : List ℕ → Option Candidate
include_at bytes = if bytes_eq (take 8 bytes) (codes "#include") then Some (kind.Include, true, drop 8 bytes) else None

unfoldable pub sign_of : ℕ → Option Sign
sign_of b =
    if b == 123 then Some sign.OpenBrace
    else (if b == 125 then Some sign.CloseBrace
    else (if b == 40 then Some sign.OpenParen
    else (if b == 41 then Some sign.CloseParen
    else (if b == 91 then Some sign.OpenBracket
    else (if b == 93 then Some sign.CloseBracket
    else (if b == 60 then Some sign.Less
    else (if b == 62 then Some sign.Greater
    else (if b == 44 then Some sign.Comma
    else (if b == 59 then Some sign.Semicolon
    else (if b == 61 then Some sign.Equals
    else None))))))))))

abbrev pub sign_candidate : List ℕ → Sign → Candidate
sign_candidate rest sign = (kind.Sign sign, true, rest)

unfoldable pub sign_at : List ℕ → Option Candidate
sign_at [] = None
sign_at (b ∷ rest) =
    if b == 58 && begins (λ c. c == 58) rest then Some (sign_candidate (drop 1 rest) sign.PathSep)
    else option_map (sign_candidate rest) (sign_of b)

-- the longest token at the start that is no text
unfoldable pub token_at : List ℕ → Option Candidate
token_at [] = None
token_at (b ∷ rest) =
    if is_ascii_alphabetic b then Some (word_at (b ∷ rest))
    else (if b == 45 || is_digit b 10 then number_at (b ∷ rest)
    else (if b == 35 then include_at (b ∷ rest) else sign_at (b ∷ rest)))

-- ---- texts

-- why a byte ends an escape before its time
abbrev pub spoilt_by : ℕ → Stop
spoilt_by b = if is_feed b then Cut else Spoilt

-- what stands after one hexadecimal digit
unfoldable pub digit_at : List ℕ → Result (List ℕ) Stop
digit_at [] = Err Cut
digit_at (b ∷ rest) = if is_digit b 16 then Ok rest else Err (spoilt_by b)

-- one step, and another after it
abbrev pub and_then : Result (List ℕ) Stop → (List ℕ → Result (List ℕ) Stop) → Result (List ℕ) Stop
and_then (Ok rest) next = next rest
and_then (Err why) next = Err why

-- what stands after the escape whose backslash came before
unfoldable pub escape_at : List ℕ → Result (List ℕ) Stop
escape_at [] = Err Cut
escape_at (b ∷ rest) =
    if is_escaped b then Ok rest else (if b == 120 then and_then (digit_at rest) digit_at else Err (spoilt_by b))

-- what stands after the byte or escape of a text at the start
unfoldable pub unit_at : List ℕ → Result (List ℕ) Stop
unit_at [] = Err Cut
unit_at (b ∷ rest) =
    if b == 34 then Err Quote else (if b == 92 then escape_at rest else (if is_feed b then Err Cut else Ok rest))
