-- The id of a script's object is bytes, and short.
use Rattle.std.proofs.Common.{◌≡◌, ◌⊎◌, inl, inr, ◌≤◌, ◌<◌, ◌^◌, ℕ, Bool, true, false, ◌&&◌, ◌||◌, ◌==◌, nat_le, List, [], ◌∷◌, ◌++◌, length, codes, refl, sym, subst, ap, arith, lit<, lit≤, length-append, leb-true, eqb-true}
use Rattle.std.specs.Char.{is_ascii_alphabetic}
use Rattle.std.specs.List.{All, list_all}
use Rattle.std.proofs.lemmas.Bool.{and_parts}
use Rattle.std.proofs.lemmas.List.Elements.{All-append, All-cons, All-nil, All-from_recursion}
use Rattle.script_lines.specs.Faults.{Line}
use Rattle.script_lines.specs.Forms.{Said, Says, header, event, skipped}
use Rattle.script_lines.specs.Forms as form
use Rattle.script_lines.specs.Lines.{text_lines, content_of}
use Rattle.script_lines.specs.Numbers.{is_digit}
use Rattle.script_lines.specs.Objects.{Object, ObjectText, IsObject, IsWordOf, is_part_byte, object_id, object_text, SaysObject}
use Rattle.script_lines.specs.Scripts.{Script, IsScript, objects}
use Rattle.script_lines.specs.TextLimits.{MAX_LINE, MAX_TIME}
use Rattle.script_rules.proofs.Names.{all_at}
use Rattle.script_rules.proofs.ScriptRules.{cut_left, content_less, each_said}
use Rattle.wire_reading.specs.Readings.{AreBytes}

abbrev IsByte : ℕ → Type 0
IsByte byte = byte < 256

-- ---- bytes that pass a test

either : (a b : Bool) → (a || b) ≡ true → (a ≡ true) ⊎ (b ≡ true)
either true b e = inl refl
either false b e = inr e

below : (low high c : ℕ) → (nat_le low c && nat_le c high) ≡ true → high < 256 → IsByte c
below low high c e small = let most = leb-true c high (and_parts (nat_le low c) (nat_le c high) e).1 in omega (arith, most, small)

part_byte : (c : ℕ) → is_part_byte c ≡ true → IsByte c
part_byte c e = by_word (either (is_ascii_alphabetic c || is_digit c) (c == 95) e)
  where
    by_letter : ((nat_le 65 c && nat_le c 90) ≡ true) ⊎ ((nat_le 97 c && nat_le c 122) ≡ true) → IsByte c
    by_letter (inl upper) = below 65 90 c upper (lit< tt)
    by_letter (inr lower) = below 97 122 c lower (lit< tt)

    by_kind : (is_ascii_alphabetic c ≡ true) ⊎ (is_digit c ≡ true) → IsByte c
    by_kind (inl letter) = by_letter (either (nat_le 65 c && nat_le c 90) (nat_le 97 c && nat_le c 122) letter)
    by_kind (inr digit) = below 48 57 c digit (lit< tt)

    by_word : ((is_ascii_alphabetic c || is_digit c) ≡ true) ⊎ ((c == 95) ≡ true) → IsByte c
    by_word (inl word) = by_kind (either (is_ascii_alphabetic c) (is_digit c) word)
    by_word (inr line) = let is = eqb-true c 95 line in omega (arith, is)

part_bytes : (bytes : List ℕ) → list_all is_part_byte bytes ≡ true → AreBytes bytes
part_bytes [] e = All-nil IsByte
part_bytes (c ∷ cs) e =
    let parts = and_parts (is_part_byte c) (list_all is_part_byte cs) e in
    All-cons IsByte c cs (part_byte c parts.0) (part_bytes cs parts.1)

-- ---- ids

dot_bytes : AreBytes (codes ".")
dot_bytes = All-from_recursion IsByte (codes ".") (lit< tt, tt)

text_bytes : (o : ObjectText) → IsObject o → AreBytes (object_id o)
unfolding object_id
text_bytes o h =
    All-append IsByte (o.app ++ codes "." ++ o.server ++ codes ".") o.object
    (All-append IsByte (o.app ++ codes "." ++ o.server) (codes ".")
    (All-append IsByte (o.app ++ codes ".") o.server
    (All-append IsByte o.app (codes ".") (part_bytes o.app h.app.each) dot_bytes) (part_bytes o.server h.server.each)) dot_bytes)
    (part_bytes o.object h.object.each)

text_less : (o : ObjectText) → length (object_id o) ≤ length (object_text o)
unfolding object_text
text_less o = simp length-append (omega arith)

abbrev IsShort : List ℕ → Type 0
IsShort text = length text ≤ MAX_LINE

object_short : (at : ℕ) (bytes : List ℕ) (said : Said) → length bytes ≤ MAX_LINE → Says bytes said → All IsShort (objects at said)
object_short at bytes (header (form.object text)) short h =
    All-cons IsShort text [] (omega (arith, cut_left (codes "object" ∷ []) (content_of bytes) text h.0, content_less bytes, short)) (All-nil IsShort)
object_short at bytes (header (form.client file)) short h = All-nil IsShort
object_short at bytes (header (form.server file)) short h = All-nil IsShort
object_short at bytes (header (form.interface home name)) short h = All-nil IsShort
object_short at bytes (header (form.servant func rule)) short h = All-nil IsShort
object_short at bytes (header (form.queue capacity timeout)) short h = All-nil IsShort
object_short at bytes (event e) short h = All-nil IsShort
object_short at bytes skipped short h = All-nil IsShort

module _ (text : List ℕ) (s : Script) (is : IsScript text s) where
  text_short : IsShort is.say.text
  text_short =
      all_at IsShort (is.say.text ∷ []) 0 is.say.text
      (subst (All IsShort) is.say.object (each_said objects IsShort object_short [] (text_lines text) is.lines is.read)) refl

  pub id_bytes : AreBytes s.object.id
  id_bytes = let (o, same, h, meant) = is.say.object_is in subst AreBytes (sym (ap (λ (x : Object). x.id) meant)) (text_bytes o h)

  pub id_short : length s.object.id ≤ MAX_LINE
  id_short =
      let (o, same, h, meant) = is.say.object_is in
      omega (arith, ap (λ (x : Object). length x.id) meant, text_less o, ap length same, text_short)

  pub timeout_within : s.object.timeout ≤ MAX_TIME
  timeout_within = let (o, same, h, meant) = is.say.object_is in omega (arith, ap (λ (x : Object). x.timeout) meant, h.timeout.high_end)
