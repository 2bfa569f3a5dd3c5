-- What spells a value goes on to do so where another rest follows.
use Rattle.std.proofs.Common.{◌≡◌, ◌<◌, ℕ, suc, ℤ, Bool, true, false, Some, List, [], ◌∷◌, ◌++◌, length, refl, sym, ap, ◌∙◌, subst, arith}
use Rattle.std.proofs.lemmas.Bool.Decides.{nat_tests}
use Rattle.std.specs.Char.{is_ascii_alphabetic}
use Rattle.std.specs.Str.Parse.{digits_value}
use Rattle.canonical_text.specs.Canonical.{truth_word}
use Rattle.idl_lex.specs.Bytes.{begins, is_word_byte}
use Rattle.idl_lex.specs.LexSteps.{run, after_run}
use Rattle.idl_lex.proofs.Lexing.Words.RunLaws.{run_passes, run_whole}
use Rattle.tars_model.specs.Declarations.{Declared, items_at}
use Rattle.tars_model.specs.Types.{TyLayer}
use Rattle.tars_model.specs.declared.enum_desc.Item.{Item}
use Rattle.tars_model.specs.declared.member.Member.{Member}
use Rattle.tars_model.specs.declared.ty.Ty.{Ty, out-Ty}
use Rattle.tars_model.specs.declared.value.Pair.{Pair}
use Rattle.tars_model.specs.declared.value.Value.{Value}
use Rattle.value_text.specs.Spelling.{past_gap, FORM, is_decimal, is_hexadecimal, is_positive, number_named, NaturalSpells, NumberSpells, NameSpells, SaysNumber, PairSpells, UnitSpells, TextSpells, BlobSpells, Comma, SpellsBy, ElementsBy, EntriesBy, EntryBy, MembersBy}
use Rattle.value_text.specs.Spelling as spelling
use Rattle.value_text.proofs.NumberLaws.{more_is}
use Rattle.value_text.proofs.PrintedTexts.{digit_is_word}
use Rattle.value_text.proofs.PrintedSpells.{word_no_digit}
use Rattle.value_text.proofs.Sizes.{value_shorter, elements_length, entries_length, members_shorter}
use Rattle.value_text.proofs.Moving.Moved.{Moved, word_moves, moves_as, both_move, past_gap_moves, gap_sign_moves}
use Rattle.value_text.proofs.Moving.Runs.{run_stops, after_stops, run_is_over}

-- ---- runs

-- a run up to the rest, whose start passes a test that its bytes may pass
module _ (test : ℕ → Bool) (weak : (b : ℕ) → is_word_byte b ≡ false → test b ≡ false) (first : ℕ → Bool) (first_passes : (b : ℕ) → first b ≡ true → test b ≡ true) where
  abbrev pub Run : (List ℕ → Type 0) → List ℕ → List ℕ → Type 0
  Run Of bytes rest = (begins first bytes ≡ true) × Of (run test bytes) × (rest ≡ after_run test bytes)

  starts : (bytes rest other : List ℕ) → begins first bytes ≡ true → bytes ≡ run test bytes ++ rest → begins first (run test bytes ++ other) ≡ true
  starts [] rest other h is = absurd cc
  starts (b ∷ bytes) rest other h is = rw (first_passes b h) h

  run_moves : (Of : List ℕ → Type 0) (bytes rest : List ℕ) → Run Of bytes rest → Moved bytes rest (Run Of)
  run_moves Of bytes rest r =
      let is : bytes ≡ run test bytes ++ rest = sym (run_whole test bytes) ∙ ap (λ (l : List ℕ). run test bytes ++ l) (sym r.2) in
      record {
        front = run test bytes;
        is = is;
        again = λ other follows.
            let stops : begins test other ≡ false = follows test weak (ap (begins test) r.2 ∙ run_is_over test bytes) in (
              starts bytes rest other r.0 is,
              subst Of (sym (run_stops test (run test bytes) other (run_passes test bytes) stops)) r.1,
              sym (after_stops test (run test bytes) other (run_passes test bytes) stops),
            );
      }

-- ---- numbers

natural_moves : (n : ℕ) (bytes rest : List ℕ) → NaturalSpells n bytes rest → Moved bytes rest (NaturalSpells n)
natural_moves n bytes rest (spelling.nought none text) = moves_as (word_moves (48 ∷ []) bytes rest text) (λ b r is. spelling.nought none is)
natural_moves n bytes rest (spelling.positive more value after) =
    moves_as (run_moves is_decimal word_no_digit is_positive (λ b h. (more_is b h).0) (λ digits. n ≡ digits_value 10 digits) bytes rest (more, value, after))
    (λ b r is. spelling.positive is.0 is.1 is.2)

digits_move : (n : ℤ) (bytes rest : List ℕ) → NumberSpells n bytes rest → Moved bytes rest (NumberSpells n)
digits_move n bytes rest (spelling.natural m is s) = moves_as (natural_moves m bytes rest s) (λ b r s. spelling.natural m is s)
digits_move n bytes rest (spelling.negative m inside is text s) =
    moves_as (both_move (word_moves (45 ∷ []) bytes inside text) (natural_moves (suc m) inside rest s)) (λ b r s. spelling.negative m s.0 is s.1 s.2)

letter_is_word : (b : ℕ) → is_ascii_alphabetic b ≡ true → is_word_byte b ≡ true
letter_is_word b h = grind (arith, nat_tests)

name_moves : (items : List Item) (n : ℤ) (bytes rest : List ℕ) → NameSpells items n bytes rest → Moved bytes rest (NameSpells items n)
name_moves items n bytes rest s =
    moves_as (run_moves is_word_byte (λ b h. h) is_ascii_alphabetic letter_is_word (λ name. number_named items name ≡ Some n) bytes rest (s.letter, s.named, s.after))
    (λ b r is. record { letter = is.0; named = is.1; after = is.2 })

number_moves : (d : Declared) (l : TyLayer) (n : ℤ) (bytes rest : List ℕ) → SaysNumber d l n bytes rest → Moved bytes rest (SaysNumber d l n)
number_moves d l n bytes rest (spelling.digits_of s) = moves_as (digits_move n bytes rest s) (λ b r s. spelling.digits_of s)
number_moves d l n bytes rest (spelling.name k is s) = moves_as (name_moves (items_at d k) n bytes rest s) (λ b r s. spelling.name k is s)

-- ---- texts and bytes

pair_moves : (p : ℕ) (bytes rest : List ℕ) → PairSpells p bytes rest → Moved bytes rest (PairSpells p)
pair_moves p bytes rest s =
    moves_as (word_moves (s.high ∷ s.low ∷ []) bytes rest s.text)
    (λ b r is. record { high = s.high; low = s.low; text = is; high_digit = s.high_digit; low_digit = s.low_digit; value = s.value })

unit_moves : (u : ℕ) (bytes rest : List ℕ) → UnitSpells u bytes rest → Moved bytes rest (UnitSpells u)
unit_moves u bytes rest (spelling.plain is text) = moves_as (word_moves (u ∷ []) bytes rest text) (λ b r t. spelling.plain is t)
unit_moves u bytes rest (spelling.marked is text) = moves_as (word_moves (92 ∷ u ∷ []) bytes rest text) (λ b r t. spelling.marked is t)
unit_moves u bytes rest (spelling.digits inside text pair) =
    moves_as (both_move (word_moves (92 ∷ 120 ∷ []) bytes inside text) (pair_moves u inside rest pair)) (λ b r t. spelling.digits t.0 t.1 t.2)

text_moves : {s bytes rest : List ℕ} → TextSpells s bytes rest → Moved bytes rest (TextSpells s)
text_moves {bytes = bytes} {rest = rest} (spelling.ends_text is) = moves_as (word_moves (34 ∷ []) bytes rest is) (λ b r t. spelling.ends_text t)
text_moves {bytes = bytes} (spelling.more_text {b = u} {next = next} unit others) = moves_as (both_move (unit_moves u bytes next unit) (text_moves others)) (λ b r t. spelling.more_text t.1 t.2)

blob_moves : {s bytes rest : List ℕ} → BlobSpells s bytes rest → Moved bytes rest (BlobSpells s)
blob_moves {bytes = bytes} {rest = rest} (spelling.ends_blob other is) =
    record { front = []; is = is; again = λ tail follows. spelling.ends_blob (follows is_hexadecimal digit_is_word other) refl }
blob_moves {bytes = bytes} (spelling.more_blob {b = u} {next = next} pair others) = moves_as (both_move (pair_moves u bytes next pair) (blob_moves others)) (λ b r t. spelling.more_blob t.1 t.2)

-- ---- values

-- the comma, if members are left, and these
abbrev pub Others : Declared → List Member → List Value → List ℕ → List ℕ → Type 0
Others d ms vs bytes rest = (after : List ℕ) × Comma ms (past_gap bytes) after × MembersBy FORM d ms vs after rest

others_move : {d : Declared} (ms : List Member) (vs : List Value) (next after rest : List ℕ) → Comma ms (past_gap next) after → length rest < length after → Moved after rest (MembersBy FORM d ms vs) → Moved next rest (Others d ms vs)
others_move {d = d} [] vs next after rest is some m =
    moves_as (past_gap_moves next rest (subst (λ (l : List ℕ). length rest < length l) is some) (subst (λ (l : List ℕ). Moved l rest (MembersBy FORM d [] vs)) is m)) (λ b r inner. (past_gap b, refl, inner))
others_move {d = d} (n ∷ ms) vs next after rest is some m =
    moves_as (both_move (gap_sign_moves 44 next is.0 is.1)
    (past_gap_moves is.0 rest (subst (λ (l : List ℕ). length rest < length l) is.2 some) (subst (λ (l : List ℕ). Moved l rest (MembersBy FORM d (n ∷ ms) vs)) is.2 m)))
    (λ b r inner. (past_gap inner.0, (inner.0, inner.1, refl), inner.2))

elements_shorter : {d : Declared} {of : Ty} {vs : List Value} {bytes rest : List ℕ} → ElementsBy FORM d of vs bytes rest → length rest < length bytes
elements_shorter (spelling.last_element next is closes) = let less = elements_length (spelling.last_element next is closes) in omega arith
elements_shorter (spelling.more_elements next inside is comma others) = let less = elements_length (spelling.more_elements next inside is comma others) in omega arith

entries_shorter : {d : Declared} {key to : Ty} {ps : List Pair} {bytes rest : List ℕ} → EntriesBy FORM d key to ps bytes rest → length rest < length bytes
entries_shorter (spelling.last_entry next is closes) = let less = entries_length (spelling.last_entry next is closes) in omega arith
entries_shorter (spelling.more_entries next inside is comma others) = let less = entries_length (spelling.more_entries next inside is comma others) in omega arith

-- another rest may stand where the text of a value ends
mutual
  pub value_moves : {d : Declared} {t : Ty} {v : Value} {bytes rest : List ℕ} → SpellsBy FORM d t v bytes rest → Moved bytes rest (SpellsBy FORM d t v)
  value_moves {bytes = bytes} {rest = rest} (spelling.truth b is v_is text) = moves_as (word_moves (truth_word b) bytes rest text) (λ x r text. spelling.truth b is v_is text)
  value_moves {d = d} {t = t} {bytes = bytes} {rest = rest} (spelling.number n fits v_is says) = moves_as (number_moves d (out-Ty t) n bytes rest says) (λ b r says. spelling.number n fits v_is says)
  value_moves {bytes = bytes} (spelling.text s inside is v_is text inner) = moves_as (both_move (word_moves (34 ∷ []) bytes inside text) (text_moves inner)) (λ b r m. spelling.text s m.0 is v_is m.1 m.2)
  value_moves {bytes = bytes} (spelling.blob of s inside is byte v_is text inner) = moves_as (both_move (word_moves (35 ∷ []) bytes inside text) (blob_moves inner)) (λ b r m. spelling.blob of s m.0 is byte v_is m.1 m.2)
  value_moves {bytes = bytes} {rest = rest} (spelling.no_elements of inside is other v_is text closes) =
      moves_as (both_move (word_moves (91 ∷ []) bytes inside text) (gap_sign_moves 93 inside rest closes)) (λ b r m. spelling.no_elements of m.0 is other v_is m.1 m.2)
  value_moves {bytes = bytes} {rest = rest} (spelling.elements of vs inside is other v_is text inner) =
      moves_as (both_move (word_moves (91 ∷ []) bytes inside text) (past_gap_moves inside rest (elements_shorter inner) (elements_move inner))) (λ b r m. spelling.elements of vs m.0 is other v_is m.1 m.2)
  value_moves {bytes = bytes} {rest = rest} (spelling.no_entries key to inside is v_is text closes) =
      moves_as (both_move (word_moves (123 ∷ []) bytes inside text) (gap_sign_moves 125 inside rest closes)) (λ b r m. spelling.no_entries key to m.0 is v_is m.1 m.2)
  value_moves {bytes = bytes} {rest = rest} (spelling.entries key to ps all inside is v_is text inner placed) =
      moves_as (both_move (word_moves (123 ∷ []) bytes inside text) (past_gap_moves inside rest (entries_shorter inner) (entries_move inner))) (λ b r m. spelling.entries key to ps all m.0 is v_is m.1 m.2 placed)
  value_moves {bytes = bytes} {rest = rest} (spelling.members k vs inside is v_is text inner) =
      moves_as (both_move (word_moves (40 ∷ []) bytes inside text) (past_gap_moves inside rest (members_shorter inner) (members_move inner))) (λ b r m. spelling.members k vs m.0 is v_is m.1 m.2)

  elements_move : {d : Declared} {of : Ty} {vs : List Value} {bytes rest : List ℕ} → ElementsBy FORM d of vs bytes rest → Moved bytes rest (ElementsBy FORM d of vs)
  elements_move {rest = rest} (spelling.last_element next is closes) = moves_as (both_move (value_moves is) (gap_sign_moves 93 next rest closes)) (λ b r m. spelling.last_element m.0 m.1 m.2)
  elements_move {rest = rest} (spelling.more_elements next inside is comma others) =
      moves_as (both_move (value_moves is) (both_move (gap_sign_moves 44 next inside comma) (past_gap_moves inside rest (elements_shorter others) (elements_move others))))
      (λ b r m. spelling.more_elements m.0 m.2.0 m.1 m.2.1 m.2.2)

  entries_move : {d : Declared} {key to : Ty} {ps : List Pair} {bytes rest : List ℕ} → EntriesBy FORM d key to ps bytes rest → Moved bytes rest (EntriesBy FORM d key to ps)
  entries_move {rest = rest} (spelling.last_entry next is closes) = moves_as (both_move (entry_moves is) (gap_sign_moves 125 next rest closes)) (λ b r m. spelling.last_entry m.0 m.1 m.2)
  entries_move {rest = rest} (spelling.more_entries next inside is comma others) =
      moves_as (both_move (entry_moves is) (both_move (gap_sign_moves 44 next inside comma) (past_gap_moves inside rest (entries_shorter others) (entries_move others))))
      (λ b r m. spelling.more_entries m.0 m.2.0 m.1 m.2.1 m.2.2)

  entry_moves : {d : Declared} {key to : Ty} {p : Pair} {bytes rest : List ℕ} → EntryBy FORM d key to p bytes rest → Moved bytes rest (EntryBy FORM d key to p)
  entry_moves {rest = rest} (spelling.entry k v colon start p_is key_is sign value_is) =
      moves_as (both_move (value_moves key_is) (both_move (gap_sign_moves 58 colon start sign) (past_gap_moves start rest (value_shorter value_is) (value_moves value_is))))
      (λ b r m. spelling.entry k v m.0 m.2.0 p_is m.1 m.2.1 m.2.2)

  members_move : {d : Declared} {ms : List Member} {vs : List Value} {bytes rest : List ℕ} → MembersBy FORM d ms vs bytes rest → Moved bytes rest (MembersBy FORM d ms vs)
  members_move {bytes = bytes} {rest = rest} (spelling.no_members text) = moves_as (word_moves (41 ∷ []) bytes rest text) (λ b r t. spelling.no_members t)
  members_move {bytes = bytes} {rest = rest} (spelling.more_members {m = m} {ms = ms} {vs = vs} equals start next after name sign is comma others) =
      moves_as (both_move (word_moves m.name bytes equals name) (both_move (gap_sign_moves 61 equals start sign)
      (both_move (past_gap_moves start next (value_shorter is) (value_moves is)) (others_move ms vs next after rest comma (members_shorter others) (members_move others)))))
      (λ b r x. spelling.more_members x.0 x.2.0 x.2.2.0 x.2.2.2.0 x.1 x.2.1 x.2.2.1 x.2.2.2.1 x.2.2.2.2)
