-- How values begin, and numbers of every type that are read.
use Rattle.std.proofs.Common.{◌≡◌, ℕ, ℤ, Bool, true, false, ◌==◌, ◌||◌, Option, Some, List, [], ◌∷◌, ◌++◌, take, Ok, refl, sym, ap, ◌∙◌, arith}
use Rattle.std.proofs.lemmas.Bool.Decides.{nat_tests}
use Rattle.std.specs.Char.{is_ascii_alphabetic}
use Rattle.canonical_text.specs.Canonical.{truth_word}
use Rattle.idl_lex.specs.Bytes.{begins, is_word_byte}
use Rattle.idl_lex.proofs.Lexing.Words.RunLaws.{take_is_run, drop_is_after}
use Rattle.tars_model.specs.Declarations.{Declared, items_at}
use Rattle.tars_model.specs.Types.{TyLayer}
use Rattle.tars_model.specs.Values.{is_signed, is_number_of}
use Rattle.tars_model.specs.declared.enum_desc.Item.{Item}
use Rattle.tars_model.specs.declared.ty.Ty.{Ty}
use Rattle.tars_model.specs.declared.ty.Ty.TheOpen as ty
use Rattle.tars_model.specs.declared.value.Pair.{Pair}
use Rattle.tars_model.specs.declared.value.Value.{Value}
use Rattle.tars_model.specs.declared.value.Value.TheVariants as values
use Rattle.value_text.specs.ReadSteps.{Read, word_len, integer_at, named, name_at, said_at, number_at, truth_at}
use Rattle.value_text.specs.ValueSteps.{value_by}
use Rattle.value_text.specs.Spelling.{past_gap, is_decimal, is_positive, has_numbers, number_named, NaturalSpells, NumberSpells, NameSpells, SaysNumber, SpellsBy, ElementsBy, EntriesBy, EntryBy, Rules}
use Rattle.value_text.specs.Spelling as spelling
use Rattle.value_text.proofs.Forms.{has_one}
use Rattle.value_text.proofs.NumberLaws.{more_is}
use Rattle.value_text.proofs.NumberReads.{number_is_read}
use Rattle.value_text.proofs.Signs.{read_ok, word_is_read}
use Rattle.value_text.proofs.Sizes.{long_number}

-- a byte that closes a list or a map, or stands in a gap
abbrev pub is_closing : ℕ → Bool
is_closing b = b == 93 || b == 125 || b == 32 || b == 10

digit_opens : (b : ℕ) → is_decimal b ≡ true → is_closing b ≡ false
digit_opens b h = grind (arith, nat_tests)

letter_opens : (b : ℕ) → is_ascii_alphabetic b ≡ true → is_closing b ≡ false
letter_opens b h = grind (arith, nat_tests)

pub digit_no_letter : (b : ℕ) → is_decimal b ≡ true → is_ascii_alphabetic b ≡ false
digit_no_letter b h = grind (arith, nat_tests)

begins_other : (test other : ℕ → Bool) (bytes : List ℕ) → ((b : ℕ) → test b ≡ true → other b ≡ false) → begins test bytes ≡ true → begins other bytes ≡ false
begins_other test other [] differ h = refl
begins_other test other (b ∷ bytes) differ h = differ b h

natural_begins : (other : ℕ → Bool) → ((b : ℕ) → is_decimal b ≡ true → other b ≡ false) → (n : ℕ) (bytes rest : List ℕ) → NaturalSpells n bytes rest → begins other bytes ≡ false
natural_begins other digit n bytes rest (spelling.nought none text) = ap (begins other) text ∙ digit 48 refl
natural_begins other digit n bytes rest (spelling.positive more value after) = begins_other is_positive other bytes (λ b h. digit b (more_is b h).0) more

-- a number begins with a digit or a minus
pub number_begins : (other : ℕ → Bool) → ((b : ℕ) → is_decimal b ≡ true → other b ≡ false) → other 45 ≡ false → (n : ℤ) (bytes rest : List ℕ) → NumberSpells n bytes rest → begins other bytes ≡ false
number_begins other digit minus n bytes rest (spelling.natural m is s) = natural_begins other digit m bytes rest s
number_begins other digit minus n bytes rest (spelling.negative m inside is text s) = ap (begins other) text ∙ minus

truth_opens : (b : Bool) (rest : List ℕ) → begins is_closing (truth_word b ++ rest) ≡ false
truth_opens true rest = refl
truth_opens false rest = refl

-- no value begins with a closing sign
pub value_opens : {rules : Rules} {d : Declared} {t : Ty} {v : Value} {bytes rest : List ℕ} → SpellsBy rules d t v bytes rest → begins is_closing bytes ≡ false
value_opens {rest = rest} (spelling.truth b is v_is text) = ap (begins is_closing) text ∙ truth_opens b rest
value_opens {t = t} {bytes = bytes} {rest = rest} (spelling.number n fits v_is (spelling.digits_of is)) = number_begins is_closing digit_opens refl n bytes rest is
value_opens {bytes = bytes} (spelling.number n fits v_is (spelling.name k enum_is is)) = begins_other is_ascii_alphabetic is_closing bytes letter_opens is.letter
value_opens (spelling.text s inside is v_is text inner) = ap (begins is_closing) text
value_opens (spelling.blob of s inside is byte v_is text inner) = ap (begins is_closing) text
value_opens (spelling.no_elements of inside is other v_is text closes) = ap (begins is_closing) text
value_opens (spelling.elements of vs inside is other v_is text inner) = ap (begins is_closing) text
value_opens (spelling.no_entries key to inside is v_is text closes) = ap (begins is_closing) text
value_opens (spelling.entries key to ps all inside is v_is text inner placed) = ap (begins is_closing) text
value_opens (spelling.members k vs inside is v_is text inner) = ap (begins is_closing) text

pub elements_open : {rules : Rules} {d : Declared} {of : Ty} {vs : List Value} {bytes rest : List ℕ} → ElementsBy rules d of vs bytes rest → begins is_closing bytes ≡ false
elements_open (spelling.last_element next is closes) = value_opens is
elements_open (spelling.more_elements next inside is comma others) = value_opens is

pub entry_opens : {rules : Rules} {d : Declared} {key to : Ty} {p : Pair} {bytes rest : List ℕ} → EntryBy rules d key to p bytes rest → begins is_closing bytes ≡ false
entry_opens (spelling.entry k v colon start p_is key_is sign value_is) = value_opens key_is

pub entries_open : {rules : Rules} {d : Declared} {key to : Ty} {ps : List Pair} {bytes rest : List ℕ} → EntriesBy rules d key to ps bytes rest → begins is_closing bytes ≡ false
entries_open (spelling.last_entry next is closes) = entry_opens is
entries_open (spelling.more_entries next inside is comma others) = entry_opens is

-- so it begins with neither of them
pub no_bracket : (bytes : List ℕ) → begins is_closing bytes ≡ false → begins (λ b. b == 93) bytes ≡ false
no_bracket [] h = refl
no_bracket (b ∷ bytes) h = apart b h
  where
    apart : (b : ℕ) → is_closing b ≡ false → (b == 93) ≡ false
    apart b h = grind (arith, nat_tests)

pub no_brace : (bytes : List ℕ) → begins is_closing bytes ≡ false → begins (λ b. b == 125) bytes ≡ false
no_brace [] h = refl
no_brace (b ∷ bytes) h = apart b h
  where
    apart : (b : ℕ) → is_closing b ≡ false → (b == 125) ≡ false
    apart b h = grind (arith, nat_tests)

pub no_gap : (bytes : List ℕ) → begins is_closing bytes ≡ false → past_gap bytes ≡ bytes
no_gap [] h = refl
no_gap (b ∷ bytes) h = rw (apart b h) refl
  where
    apart : (b : ℕ) → is_closing b ≡ false → (b == 32 || b == 10) ≡ false
    apart b h = grind (arith, nat_tests)

pub letter_no_gap : (bytes : List ℕ) → begins is_ascii_alphabetic bytes ≡ true → past_gap bytes ≡ bytes
letter_no_gap bytes h = no_gap bytes (begins_other is_ascii_alphabetic is_closing bytes letter_opens h)

-- ---- numbers

name_is_read : (items : List Item) (n : ℤ) (bytes rest : List ℕ) → NameSpells items n bytes rest → name_at items bytes ≡ Ok (n, rest)
unfolding name_at
name_is_read items n bytes rest is =
    let found : number_named items (take (word_len bytes) bytes) ≡ Some n = ap (number_named items) (take_is_run is_word_byte bytes) ∙ is.named in
    ap (λ (o : Option ℤ). named o items (word_len bytes) bytes) found ∙ ap (read_ok n) (drop_is_after is_word_byte bytes ∙ sym is.after)

-- digits are read as a number under every type
pub digits_said : (d : Declared) (l : TyLayer) (n : ℤ) (bytes rest : List ℕ) → NumberSpells n bytes rest → said_at d l bytes ≡ integer_at bytes
digits_said d (ty.Enum k) n bytes rest is = rw (number_begins is_ascii_alphabetic digit_no_letter refl n bytes rest is) refl
digits_said d _ n bytes rest is = refl

pub name_said : (d : Declared) (l : TyLayer) (n : ℤ) (bytes rest : List ℕ) (k : ℕ) → l ≡ ty.Enum k → NameSpells (items_at d k) n bytes rest → said_at d l bytes ≡ Ok (n, rest)
name_said d l n bytes rest k enum_is is = ap (λ (m : TyLayer). said_at d m bytes) enum_is ∙ rw is.letter (name_is_read (items_at d k) n bytes rest is)

pub said_is_read : (d : Declared) (l : TyLayer) (n : ℤ) (bytes rest : List ℕ) → is_signed 63 n ≡ true → SaysNumber d l n bytes rest → said_at d l bytes ≡ Ok (n, rest)
said_is_read d l n bytes rest long (spelling.digits_of is) = digits_said d l n bytes rest is ∙ number_is_read n bytes rest long is
said_is_read d l n bytes rest long (spelling.name k enum_is is) = name_said d l n bytes rest k enum_is is

number_read : (d : Declared) (l : TyLayer) (n : ℤ) (bytes rest : List ℕ) → is_number_of l n ≡ true → SaysNumber d l n bytes rest → number_at d l bytes ≡ Ok (values.Num n, rest)
unfolding number_at
number_read d l n bytes rest fits says = rw (said_is_read d l n bytes rest (long_number l n fits) says, fits) refl

-- a type that has numbers is read as they are
pub reads_numbers : (d : Declared) (f : Ty → List ℕ → Read Value) (l : TyLayer) (bytes : List ℕ) → has_numbers l ≡ true → value_by d f l bytes ≡ number_at d l bytes
reads_numbers d f ty.Bool bytes has = absurd cc
reads_numbers d f ty.Text bytes has = absurd cc
reads_numbers d f (ty.Vector of) bytes has = absurd cc
reads_numbers d f (ty.Map key to) bytes has = absurd cc
reads_numbers d f (ty.Struct k) bytes has = absurd cc
reads_numbers d f ty.Byte bytes has = refl
reads_numbers d f ty.Short bytes has = refl
reads_numbers d f ty.Int bytes has = refl
reads_numbers d f ty.Long bytes has = refl
reads_numbers d f ty.UByte bytes has = refl
reads_numbers d f ty.UShort bytes has = refl
reads_numbers d f ty.UInt bytes has = refl
reads_numbers d f (ty.Enum k) bytes has = refl

pub number_of_type : (d : Declared) (f : Ty → List ℕ → Read Value) (l : TyLayer) (n : ℤ) (bytes rest : List ℕ) → is_number_of l n ≡ true → SaysNumber d l n bytes rest → value_by d f l bytes ≡ Ok (values.Num n, rest)
number_of_type d f l n bytes rest fits says = reads_numbers d f l bytes (has_one l n fits) ∙ number_read d l n bytes rest fits says

-- ---- truth values

pub truth_is_read : (b : Bool) (bytes rest : List ℕ) → bytes ≡ truth_word b ++ rest → truth_at bytes ≡ Ok (values.Bool b, rest)
unfolding truth_at
truth_is_read true bytes rest is = ap truth_at is ∙ rw (word_is_read (truth_word true) (truth_word true ++ rest) rest refl) refl
truth_is_read false bytes rest is = ap truth_at is ∙ rw (word_is_read (truth_word false) (truth_word false ++ rest) rest refl) refl
