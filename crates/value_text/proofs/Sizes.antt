-- A value takes a byte at least, and what is spelled fits its type.
use Rattle.std.proofs.Common.{◌≡◌, ◌≤◌, ◌<◌, ◌+◌, ◌*◌, ◌^◌, ℕ, suc, ℤ, pos, negsuc, Bool, true, false, nat_lt, List, [], ◌∷◌, ◌++◌, length, ap, arith, length-append, ltb-true, lt-ltb}
use Rattle.std.proofs.lemmas.Bool.Decides.{nat_tests}
use Rattle.std.specs.Char.{is_ascii_alphabetic}
use Rattle.canonical_text.specs.Canonical.{truth_word}
use Rattle.idl_lex.specs.Bytes.{begins, is_word_byte}
use Rattle.idl_lex.proofs.Lexing.Words.RunLaws.{after_within, run_some}
use Rattle.tars_model.specs.Declarations.{Declared}
use Rattle.tars_model.specs.Types.{TyLayer}
use Rattle.tars_model.specs.Values.{is_signed, is_number_of}
use Rattle.tars_model.specs.declared.member.Member.{Member}
use Rattle.tars_model.specs.declared.ty.Ty.{Ty, out-Ty}
use Rattle.tars_model.specs.declared.ty.Ty.TheOpen as ty
use Rattle.tars_model.specs.declared.value.Pair.{Pair}
use Rattle.tars_model.specs.declared.value.Value.{Value}
use Rattle.value_text.specs.Spelling.{past_gap, is_decimal, is_positive, NaturalSpells, SaysNumber, Comma, Placed, SpellsBy, ElementsBy, EntriesBy, EntryBy, MembersBy, Rules}
use Rattle.value_text.specs.Spelling as spelling
use Rattle.value_text.proofs.Signs.{past_gap_shorter}
use Rattle.value_text.proofs.TextLaws.{text_length, blob_length}

wide : (n bound : ℕ) → nat_lt n bound ≡ true → bound ≤ 2 ^ 63 → nat_lt n (2 ^ 63) ≡ true
wide n bound h within = let less : n < bound = ltb-true n bound h in lt-ltb n (2 ^ 63) (omega arith)

-- a number of any type is one of 64 bits
pub long_number : (l : TyLayer) (n : ℤ) → is_number_of l n ≡ true → is_signed 63 n ≡ true
long_number ty.Byte (pos n) h = wide n (2 ^ 7) h (omega arith)
long_number ty.Byte (negsuc n) h = wide n (2 ^ 7) h (omega arith)
long_number ty.Short (pos n) h = wide n (2 ^ 15) h (omega arith)
long_number ty.Short (negsuc n) h = wide n (2 ^ 15) h (omega arith)
long_number ty.Int (pos n) h = wide n (2 ^ 31) h (omega arith)
long_number ty.Int (negsuc n) h = wide n (2 ^ 31) h (omega arith)
long_number ty.Long n h = h
long_number ty.UByte (pos n) h = wide n (2 ^ 8) h (omega arith)
long_number ty.UByte (negsuc n) h = absurd cc
long_number ty.UShort (pos n) h = wide n (2 ^ 16) h (omega arith)
long_number ty.UShort (negsuc n) h = absurd cc
long_number ty.UInt (pos n) h = wide n (2 ^ 32) h (omega arith)
long_number ty.UInt (negsuc n) h = absurd cc
long_number (ty.Enum k) (pos n) h = wide n (2 ^ 31) h (omega arith)
long_number (ty.Enum k) (negsuc n) h = wide n (2 ^ 31) h (omega arith)
long_number _ n h = absurd cc

-- ---- a byte at least

truth_shorter : (b : Bool) (rest : List ℕ) → length rest < length (truth_word b ++ rest)
truth_shorter true rest = omega arith
truth_shorter false rest = omega arith

natural_shorter : (n : ℕ) (bytes rest : List ℕ) → NaturalSpells n bytes rest → length rest < length bytes
natural_shorter n bytes rest (spelling.nought none text) = rw text (omega arith)
natural_shorter n bytes rest (spelling.positive more value after) =
    let some = run_some is_decimal bytes (digit_begins bytes more) in
    let all = after_within is_decimal bytes in
    rw after (omega arith)
  where
    digit_passes : (b : ℕ) → is_positive b ≡ true → is_decimal b ≡ true
    digit_passes b h = grind (arith, nat_tests)

    digit_begins : (bytes : List ℕ) → begins is_positive bytes ≡ true → begins is_decimal bytes ≡ true
    digit_begins [] h = absurd cc
    digit_begins (b ∷ bytes) h = digit_passes b h

letter_passes : (b : ℕ) → is_ascii_alphabetic b ≡ true → is_word_byte b ≡ true
letter_passes b h = grind (arith, nat_tests)

letter_begins : (bytes : List ℕ) → begins is_ascii_alphabetic bytes ≡ true → begins is_word_byte bytes ≡ true
letter_begins [] h = absurd cc
letter_begins (b ∷ bytes) h = letter_passes b h

number_shorter : (d : Declared) (l : TyLayer) (n : ℤ) (bytes rest : List ℕ) → SaysNumber d l n bytes rest → length rest < length bytes
number_shorter d l n bytes rest (spelling.digits_of (spelling.natural m is s)) = natural_shorter m bytes rest s
number_shorter d l n bytes rest (spelling.digits_of (spelling.negative m inside is text s)) = let less = natural_shorter (suc m) inside rest s in rw text (omega arith)
number_shorter d l n bytes rest (spelling.name k enum_is is) =
    let some = run_some is_word_byte bytes (letter_begins bytes is.letter) in
    let all = after_within is_word_byte bytes in
    rw is.after (omega arith)

pub comma_shorter : (ms : List Member) (bytes rest : List ℕ) → Comma ms bytes rest → length rest ≤ length bytes
comma_shorter [] bytes rest is = rw is (omega arith)
comma_shorter (m ∷ ms) bytes rest is = let gap = past_gap_shorter is.0 in rw (is.1, is.2) (omega arith)

mutual
  pub value_shorter : {rules : Rules} {d : Declared} {t : Ty} {v : Value} {bytes rest : List ℕ} → SpellsBy rules d t v bytes rest → length rest < length bytes
  value_shorter {rest = rest} (spelling.truth b is v_is text) = rw text (truth_shorter b rest)
  value_shorter {d = d} {t = t} {bytes = bytes} {rest = rest} (spelling.number n fits v_is says) = number_shorter d (out-Ty t) n bytes rest says
  value_shorter (spelling.text s inside is v_is text inner) = let less = text_length inner in rw text (omega arith)
  value_shorter (spelling.blob of s inside is byte v_is text inner) = let less = blob_length inner in rw text (omega arith)
  value_shorter (spelling.no_elements of inside is other v_is text closes) =
      let gap = past_gap_shorter inside in let closed = ap length closes in rw text (omega arith)
  value_shorter (spelling.elements of vs inside is other v_is text inner) =
      let gap = past_gap_shorter inside in let less = elements_length inner in rw text (omega arith)
  value_shorter (spelling.no_entries key to inside is v_is text closes) =
      let gap = past_gap_shorter inside in let closed = ap length closes in rw text (omega arith)
  value_shorter (spelling.entries key to ps all inside is v_is text inner placed) =
      let gap = past_gap_shorter inside in let less = entries_length inner in rw text (omega arith)
  value_shorter (spelling.members k vs inside is v_is text inner) =
      let gap = past_gap_shorter inside in let less = members_shorter inner in rw text (omega arith)

  pub elements_length : {rules : Rules} {d : Declared} {of : Ty} {vs : List Value} {bytes rest : List ℕ} → ElementsBy rules d of vs bytes rest → 2 * length vs + length rest ≤ length bytes
  elements_length (spelling.last_element next is closes) =
      let less = value_shorter is in let gap = past_gap_shorter next in let closed = ap length closes in omega arith
  elements_length (spelling.more_elements next inside is comma others) =
      let less = value_shorter is in let gap = past_gap_shorter next in let comma_len = ap length comma in let gap_in = past_gap_shorter inside in let rest_len = elements_length others in omega arith

  pub entries_length : {rules : Rules} {d : Declared} {key to : Ty} {ps : List Pair} {bytes rest : List ℕ} → EntriesBy rules d key to ps bytes rest → 2 * length ps + length rest ≤ length bytes
  entries_length (spelling.last_entry next is closes) =
      let less = entry_shorter is in let gap = past_gap_shorter next in let closed = ap length closes in omega arith
  entries_length (spelling.more_entries next inside is comma others) =
      let less = entry_shorter is in let gap = past_gap_shorter next in let comma_len = ap length comma in let gap_in = past_gap_shorter inside in let rest_len = entries_length others in omega arith

  pub entry_shorter : {rules : Rules} {d : Declared} {key to : Ty} {p : Pair} {bytes rest : List ℕ} → EntryBy rules d key to p bytes rest → length rest < length bytes
  entry_shorter (spelling.entry k v colon start p_is key_is sign value_is) =
      let less_key = value_shorter key_is in let gap = past_gap_shorter colon in let sign_len = ap length sign in let gap_in = past_gap_shorter start in let less_value = value_shorter value_is in omega arith

  pub members_shorter : {rules : Rules} {d : Declared} {ms : List Member} {vs : List Value} {bytes rest : List ℕ} → MembersBy rules d ms vs bytes rest → length rest < length bytes
  members_shorter (spelling.no_members text) = rw text (omega arith)
  members_shorter (spelling.more_members {m = m} {ms = ms} equals start next after name sign is comma others) =
      let gap = past_gap_shorter equals in
      let sign_len = ap length sign in
      let gap_in = past_gap_shorter start in
      let less = value_shorter is in
      let gap_out = past_gap_shorter next in
      let comma_len = comma_shorter ms (past_gap next) after comma in
      let rest_len = members_shorter others in
      rw (name, length-append m.name equals) (omega arith)
