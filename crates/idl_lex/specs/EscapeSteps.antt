-- For the proofs: how the bytes between quotes are read, byte by byte, as the code does. What a text spells is said in
-- specs/Texts.antt.
use Rattle.std.specs.Prelude.{ℕ, ◌+◌, ◌*◌, ◌==◌, if◌then◌else◌, Option, Some, None, List, [], ◌∷◌}
use Rattle.std.specs.Char.{digit_value, is_digit}
use Rattle.idl_lex.specs.Bytes.{escaped}
use Rattle.idl_lex.specs.declared.escape.Escape.{Escape}
use Rattle.idl_lex.specs.declared.escape.Escape.TheVariants.{Outside, Slash, Hex, Digit}

-- the number of a hexadecimal digit, and 0 of another byte
abbrev pub hex_value : ℕ → ℕ
hex_value b = if is_digit b 16 then digit_value b else 0

-- where a byte leads, and what it gives
abbrev pub escape_step : Escape → ℕ → Escape × Option ℕ
escape_step Outside b = if b == 92 then (Slash, None) else (Outside, Some b)
escape_step Slash b = if b == 120 then (Hex, None) else (Outside, Some (escaped b))
escape_step Hex b = (Digit b, None)
escape_step (Digit high) b = (Outside, Some (16 * hex_value high + hex_value b))

abbrev pub given : Option ℕ → List ℕ → List ℕ
given None bytes = bytes
given (Some b) bytes = b ∷ bytes

unfoldable pub unescaped_from : Escape → List ℕ → List ℕ
unescaped_from escape [] = []
unescaped_from escape (b ∷ bs) = given (escape_step escape b).1 (unescaped_from (escape_step escape b).0 bs)

abbrev pub unescaped : List ℕ → List ℕ
unescaped bytes = unescaped_from Outside bytes
