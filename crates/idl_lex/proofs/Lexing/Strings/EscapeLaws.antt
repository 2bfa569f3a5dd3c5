-- Reading byte by byte gives what the units of a text spell.
use Rattle.std.proofs.Common.{◌≡◌, ℕ, ◌+◌, ◌-◌, ◌*◌, ◌<◌, ◌≤◌, Option, Some, None, List, [], ◌∷◌, ◌++◌, length, get_or, take, drop, refl, sym, ap, ◌∙◌, append_assoc, subst, arith, length-append}
use Rattle.std.proofs.lemmas.List.{append-nil, drop_more, drop_all, take_at}
use Rattle.std.specs.Prelude.{slice_range, Result, Ok, Err, IfOk}
use Rattle.std.specs.Char.{digit_value}
use Rattle.idl_lex.specs.EscapeSteps.{escape_step, given, unescaped_from, unescaped}
use Rattle.idl_lex.specs.Texts.{UnitSpells, UnitsSpell, TextSpells, IsTextPrefix}
use Rattle.idl_lex.specs.Texts.UnitSpells.{plain, short, hex}
use Rattle.idl_lex.specs.Texts.UnitsSpell.{none, more}
use Rattle.idl_lex.specs.declared.escape.Escape.{Escape}
use Rattle.idl_lex.specs.declared.escape.Escape.TheVariants.{Outside}
use Rattle.idl_lex.proofs.Lexing.Strings.TextLaws.{plain_tests, no_x, units_split}

-- ---- one byte after the other

given_first : (o : Option ℕ) (bytes : List ℕ) → given o bytes ≡ given o [] ++ bytes
given_first None bytes = refl
given_first (Some b) bytes = refl

pub bytes_go_on : (prefix : List ℕ) (escape : Escape) (bytes : List ℕ) (i : ℕ) (total : List ℕ) → i < length bytes → prefix ++ unescaped_from escape (drop i bytes) ≡ total → (prefix ++ given (escape_step escape (get_or bytes i 0)).1 []) ++ unescaped_from (escape_step escape (get_or bytes i 0)).0 (drop (i + 1) bytes) ≡ total
unfolding unescaped_from
bytes_go_on prefix escape bytes i total lt so_far =
    let b = get_or bytes i 0 in
    let k : drop i bytes ≡ b ∷ drop (i + 1) bytes = drop_more bytes i 0 lt in
    let later = unescaped_from (escape_step escape b).0 (drop (i + 1) bytes) in
    append_assoc prefix (given (escape_step escape b).1 []) later
    ∙ ap (λ z. prefix ++ z) (sym (given_first (escape_step escape b).1 later))
    ∙ ap (λ z. prefix ++ unescaped_from escape z) (sym k)
    ∙ so_far

pub bytes_end : (prefix : List ℕ) (escape : Escape) (bytes : List ℕ) (i : ℕ) (total : List ℕ) → length bytes ≤ i → prefix ++ unescaped_from escape (drop i bytes) ≡ total → prefix ≡ total
unfolding unescaped_from
bytes_end prefix escape bytes i total le so_far =
    let k : drop i bytes ≡ [] = drop_all i bytes le in
    sym (append-nil prefix) ∙ ap (λ z. prefix ++ unescaped_from escape z) (sym k) ∙ so_far

-- ---- what is spelled is read

two_digits : (high low : ℕ) → 16 * high + low ≡ (0 * 16 + high) * 16 + low
two_digits high low = omega arith

unit_read : {byte : ℕ} {bytes rest : List ℕ} → UnitSpells byte bytes rest → unescaped_from Outside bytes ≡ byte ∷ unescaped_from Outside rest
unfolding unescaped_from
unit_read (plain {b = b} p) = rw ((plain_tests b p).1) refl
unit_read (short {c = c} backslash is) = rw (backslash, no_x c is) refl
unit_read (hex {h = h} {l = l} {rest = rest} backslash x high low) =
    rw (backslash, x, high, low) (ap (λ (b : ℕ). b ∷ unescaped_from Outside rest) (two_digits (digit_value h) (digit_value l)))

units_read : {spelled bytes rest : List ℕ} → UnitsSpell spelled bytes rest → unescaped_from Outside bytes ≡ spelled ++ unescaped_from Outside rest
units_read none = refl
units_read (more {byte = byte} first others) = unit_read first ∙ ap (λ (bs : List ℕ). byte ∷ bs) (units_read others)

-- ---- between the quotes

inside_is : (word prefix : List ℕ) → word ≡ 34 ∷ (prefix ++ 34 ∷ []) → slice_range word 1 (length word - 1) ≡ prefix
inside_is word prefix is =
    let many : length prefix ≡ length word - 1 - 1 = omega (arith, ap length is, length-append prefix (34 ∷ [])) in
    ap (λ (w : List ℕ). take (length word - 1 - 1) (drop 1 w)) is ∙ take_at prefix (34 ∷ []) (length word - 1 - 1) many

pub text_read : (spelled word : List ℕ) → TextSpells spelled word [] → unescaped (slice_range word 1 (length word - 1)) ≡ spelled
unfolding unescaped_from
text_read spelled word (inside, quote, units) =
    let split = units_split units in
    let whole = inside_is word split.0 (quote ∙ ap (λ (t : List ℕ). 34 ∷ t) split.1) in
    let all : UnitsSpell spelled split.0 [] = subst (λ (t : List ℕ). UnitsSpell spelled t []) (append-nil split.0) (split.2 []) in
    ap unescaped whole ∙ units_read all ∙ append-nil spelled

-- the quotes are two bytes
pub quotes_within : (word : List ℕ) → IsTextPrefix word [] → 2 ≤ length word
quotes_within word (spelled, (inside, quote, units)) =
    let split = units_split units in
    omega (arith, ap length quote, ap length split.1, length-append split.0 (34 ∷ []))

pub spells : {E : Type 0} (read : Result (List ℕ) E) (word inside : List ℕ) → IsTextPrefix word [] → inside ≡ slice_range word 1 (length word - 1) → IfOk read (λ bytes. bytes ≡ unescaped inside) → IfOk read (λ bytes. TextSpells bytes word [])
spells (Ok bytes) word inside (spelled, text) is read =
    subst (λ b. TextSpells b word []) (sym (read ∙ ap unescaped is ∙ text_read spelled word text)) text
spells (Err e) word inside text is read = tt
