-- What bytes that a text spells are: each below 256, and two digits of the text each.
use Rattle.std.proofs.Common.{◌≡◌, ◌<◌, ◌≤◌, ℕ, ◌*◌, true, List, length, arith}
use Rattle.std.proofs.lemmas.Bool.Decides.{nat_tests}
use Rattle.std.specs.Char.{digit_value}
use Rattle.std.specs.List.{AllByRecursion}
use Rattle.hex_text.specs.HexText.{is_hexadecimal, HexSpells, nothing, blank, pair}

digit_small : (c : ℕ) → is_hexadecimal c ≡ true → digit_value c < 16
digit_small c is = grind (arith, nat_tests)

pub octets : (bytes text : List ℕ) → HexSpells bytes text → AllByRecursion (λ byte. byte < 256) bytes
octets bytes text nothing = tt
octets bytes text (blank {text = rest} is spells) = octets bytes rest spells
octets bytes text (pair {byte = byte} {high = high} {low = low} {bytes = left} {text = rest} first second value spells) =
    (omega (arith, value, digit_small high first, digit_small low second), octets left rest spells)

pub half_as_long : (bytes text : List ℕ) → HexSpells bytes text → 2 * length bytes ≤ length text
half_as_long bytes text nothing = omega arith
half_as_long bytes text (blank {text = rest} is spells) = omega (arith, half_as_long bytes rest spells)
half_as_long bytes text (pair {bytes = left} {text = rest} first second value spells) = omega (arith, half_as_long left rest spells)
