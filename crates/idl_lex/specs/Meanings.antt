-- What the bytes of numbers and texts mean (docs/IDL.md, "Tokens" and "Texts").
use Rattle.std.specs.Prelude.{ℕ, zero, suc, ◌-◌, ◌==◌, if◌then◌else◌, ℤ, pos, negsuc, List, length, drop, slice_index, slice_range}
use Rattle.idl_lex.specs.EscapeSteps.{unescaped}
use Rattle.idl_lex.specs.Forms.{magnitude}

abbrev pub negative : ℕ → ℤ
negative zero = pos 0
negative (suc n) = negsuc n

-- the whole number that a number's bytes stand for: decimal digits, or hexadecimal ones after `0x`; a minus may stand first
abbrev pub whole_number : List ℕ → ℤ
whole_number word = if slice_index word 0 == 45 then negative (magnitude (drop 1 word)) else pos (magnitude word)

-- the bytes that a text in quotes spells, each escape replaced (`TextSpells` of specs/Texts.antt says it by a relation)
abbrev pub plain_text : List ℕ → List ℕ
plain_text word = unescaped (slice_range word 1 (length word - 1))
