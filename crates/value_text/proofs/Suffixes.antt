-- What comes after a value is the end of its bytes.
use Rattle.std.proofs.Common.{◌≡◌, ◌-◌, ℕ, suc, Bool, true, false, ◌==◌, ◌||◌, ℤ, cond, List, [], ◌∷◌, ◌++◌, length, drop, refl, sym, ap, ◌∙◌, subst, arith, append_assoc, length-append}
use Rattle.std.proofs.Math.Seq.{drop-append_seam}
use Rattle.canonical_text.specs.Canonical.{truth_word}
use Rattle.idl_lex.specs.Bytes.{is_word_byte}
use Rattle.idl_lex.specs.LexSteps.{run, after_run}
use Rattle.idl_lex.proofs.Lexing.Words.RunLaws.{run_whole}
use Rattle.tars_model.specs.Declarations.{Declared}
use Rattle.tars_model.specs.Types.{TyLayer}
use Rattle.tars_model.specs.declared.member.Member.{Member}
use Rattle.tars_model.specs.declared.ty.Ty.{Ty, out-Ty}
use Rattle.tars_model.specs.declared.value.Pair.{Pair}
use Rattle.tars_model.specs.declared.value.Value.{Value}
use Rattle.value_text.specs.Spelling.{past_gap, is_decimal, NaturalSpells, PairSpells, UnitSpells, TextSpells, BlobSpells, SaysNumber, Comma, SpellsBy, ElementsBy, EntriesBy, EntryBy, MembersBy, Rules}
use Rattle.value_text.specs.Spelling as spelling

-- the bytes end with the rest
pub record EndsWith (bytes rest : List ℕ) : Type 0 where
  pub front : List ℕ
  pub is : bytes ≡ front ++ rest

pub whole : (bytes : List ℕ) → EndsWith bytes bytes
whole bytes = record { front = []; is = refl }

pub after : (front : List ℕ) (bytes rest : List ℕ) → bytes ≡ front ++ rest → EndsWith bytes rest
after front bytes rest is = record { front = front; is = is }

pub further : {a b c : List ℕ} → EndsWith a b → EndsWith b c → EndsWith a c
further {a = a} {b = b} {c = c} one two = record { front = one.front ++ two.front; is = one.is ∙ ap (λ (l : List ℕ). one.front ++ l) two.is ∙ sym (append_assoc one.front two.front c) }

pub past_gap_ends : (bytes : List ℕ) → EndsWith bytes (past_gap bytes)
past_gap_ends [] = whole []
past_gap_ends (b ∷ bytes) = by_test (b == 32 || b == 10) (past_gap_ends bytes)
  where
    by_test : (t : Bool) → EndsWith bytes (past_gap bytes) → EndsWith (b ∷ bytes) (cond t (past_gap bytes) (b ∷ bytes))
    by_test true h = further (after (b ∷ []) (b ∷ bytes) bytes refl) h
    by_test false h = whole (b ∷ bytes)

-- a sign, and the gap after it
pub sign_ends : (c : ℕ) (bytes inside : List ℕ) → bytes ≡ c ∷ inside → EndsWith bytes (past_gap inside)
sign_ends c bytes inside is = further (after (c ∷ []) bytes inside is) (past_gap_ends inside)

-- a gap, and a sign
pub gap_ends : (c : ℕ) (bytes rest : List ℕ) → past_gap bytes ≡ c ∷ rest → EndsWith bytes rest
gap_ends c bytes rest is = further (past_gap_ends bytes) (after (c ∷ []) (past_gap bytes) rest is)

pair_ends : (b : ℕ) (bytes rest : List ℕ) → PairSpells b bytes rest → EndsWith bytes rest
pair_ends b bytes rest p = after (p.high ∷ p.low ∷ []) bytes rest p.text

unit_ends : (b : ℕ) (bytes rest : List ℕ) → UnitSpells b bytes rest → EndsWith bytes rest
unit_ends b bytes rest (spelling.plain is text) = after (b ∷ []) bytes rest text
unit_ends b bytes rest (spelling.marked is text) = after (92 ∷ b ∷ []) bytes rest text
unit_ends b bytes rest (spelling.digits inside text pair) = further (after (92 ∷ 120 ∷ []) bytes inside text) (pair_ends b inside rest pair)

text_ends : {text bytes rest : List ℕ} → TextSpells text bytes rest → EndsWith bytes rest
text_ends {rest = rest} (spelling.ends_text {bytes = bytes} is) = after (34 ∷ []) bytes rest is
text_ends (spelling.more_text {b = b} {bytes = bytes} {next = next} unit others) = further (unit_ends b bytes next unit) (text_ends others)

blob_ends : {blob bytes rest : List ℕ} → BlobSpells blob bytes rest → EndsWith bytes rest
blob_ends {rest = rest} (spelling.ends_blob {bytes = bytes} other is) = after [] bytes rest is
blob_ends (spelling.more_blob {b = b} {bytes = bytes} {next = next} pair others) = further (pair_ends b bytes next pair) (blob_ends others)

run_ends : (test : ℕ → Bool) (bytes rest : List ℕ) → rest ≡ after_run test bytes → EndsWith bytes rest
run_ends test bytes rest is = after (run test bytes) bytes rest (sym (run_whole test bytes) ∙ ap (λ (r : List ℕ). run test bytes ++ r) (sym is))

natural_ends : (n : ℕ) (bytes rest : List ℕ) → NaturalSpells n bytes rest → EndsWith bytes rest
natural_ends n bytes rest (spelling.nought none text) = after (48 ∷ []) bytes rest text
natural_ends n bytes rest (spelling.positive more value stops) = run_ends is_decimal bytes rest stops

number_ends : (d : Declared) (l : TyLayer) (n : ℤ) (bytes rest : List ℕ) → SaysNumber d l n bytes rest → EndsWith bytes rest
number_ends d l n bytes rest (spelling.digits_of (spelling.natural m is s)) = natural_ends m bytes rest s
number_ends d l n bytes rest (spelling.digits_of (spelling.negative m inside is text s)) = further (after (45 ∷ []) bytes inside text) (natural_ends (suc m) inside rest s)
number_ends d l n bytes rest (spelling.name k enum_is is) =
    run_ends is_word_byte bytes rest is.after

comma_ends : (ms : List Member) (bytes rest : List ℕ) → Comma ms bytes rest → EndsWith bytes rest
comma_ends [] bytes rest is = after [] bytes rest (sym is)
comma_ends (m ∷ ms) bytes rest is = subst (EndsWith bytes) (sym is.2) (sign_ends 44 bytes is.0 is.1)

mutual
  pub value_ends : {rules : Rules} {d : Declared} {t : Ty} {v : Value} {bytes rest : List ℕ} → SpellsBy rules d t v bytes rest → EndsWith bytes rest
  value_ends {bytes = bytes} {rest = rest} (spelling.truth b is v_is text) = after (truth_word b) bytes rest text
  value_ends {d = d} {t = t} {bytes = bytes} {rest = rest} (spelling.number n fits v_is says) = number_ends d (out-Ty t) n bytes rest says
  value_ends {bytes = bytes} (spelling.text s inside is v_is text inner) = further (after (34 ∷ []) bytes inside text) (text_ends inner)
  value_ends {bytes = bytes} (spelling.blob of s inside is byte v_is text inner) = further (after (35 ∷ []) bytes inside text) (blob_ends inner)
  value_ends {bytes = bytes} {rest = rest} (spelling.no_elements of inside is other v_is text closes) = further (after (91 ∷ []) bytes inside text) (gap_ends 93 inside rest closes)
  value_ends {bytes = bytes} (spelling.elements of vs inside is other v_is text inner) = further (sign_ends 91 bytes inside text) (elements_end inner)
  value_ends {bytes = bytes} {rest = rest} (spelling.no_entries key to inside is v_is text closes) = further (after (123 ∷ []) bytes inside text) (gap_ends 125 inside rest closes)
  value_ends {bytes = bytes} (spelling.entries key to ps all inside is v_is text inner placed) = further (sign_ends 123 bytes inside text) (entries_end inner)
  value_ends {bytes = bytes} (spelling.members k vs inside is v_is text inner) = further (sign_ends 40 bytes inside text) (members_end inner)

  elements_end : {rules : Rules} {d : Declared} {of : Ty} {vs : List Value} {bytes rest : List ℕ} → ElementsBy rules d of vs bytes rest → EndsWith bytes rest
  elements_end {rest = rest} (spelling.last_element next is closes) = further (value_ends is) (gap_ends 93 next rest closes)
  elements_end (spelling.more_elements next inside is comma others) = further (value_ends is) (further (gap_ends 44 next inside comma) (further (past_gap_ends inside) (elements_end others)))

  entries_end : {rules : Rules} {d : Declared} {key to : Ty} {ps : List Pair} {bytes rest : List ℕ} → EntriesBy rules d key to ps bytes rest → EndsWith bytes rest
  entries_end {rest = rest} (spelling.last_entry next is closes) = further (entry_ends is) (gap_ends 125 next rest closes)
  entries_end (spelling.more_entries next inside is comma others) = further (entry_ends is) (further (gap_ends 44 next inside comma) (further (past_gap_ends inside) (entries_end others)))

  pub entry_ends : {rules : Rules} {d : Declared} {key to : Ty} {p : Pair} {bytes rest : List ℕ} → EntryBy rules d key to p bytes rest → EndsWith bytes rest
  entry_ends (spelling.entry k v colon start p_is key_is sign value_is) =
      further (value_ends key_is) (further (gap_ends 58 colon start sign) (further (past_gap_ends start) (value_ends value_is)))

  members_end : {rules : Rules} {d : Declared} {ms : List Member} {vs : List Value} {bytes rest : List ℕ} → MembersBy rules d ms vs bytes rest → EndsWith bytes rest
  members_end {bytes = bytes} {rest = rest} (spelling.no_members text) = after (41 ∷ []) bytes rest text
  members_end {bytes = bytes} (spelling.more_members {m = m} {ms = ms} equals start next after_comma name sign is comma others) =
      further (after m.name bytes equals name) (further (gap_ends 61 equals start sign) (further (past_gap_ends start)
      (further (value_ends is) (further (past_gap_ends next) (further (comma_ends ms (past_gap next) after_comma comma) (members_end others))))))

-- the rest is what stands after so many bytes
pub rest_is : (bytes rest : List ℕ) → EndsWith bytes rest → rest ≡ drop (length bytes - length rest) bytes
rest_is bytes rest e =
    let len : length bytes - length rest ≡ length e.front = ap (λ (l : List ℕ). length l - length rest) e.is ∙ ap (λ (n : ℕ). n - length rest) (length-append e.front rest) ∙ omega arith in
    sym (ap (λ (n : ℕ). drop n bytes) len ∙ ap (drop (length e.front)) e.is ∙ drop-append_seam e.front rest)
