-- What a text spells is no longer than the text.
use Rattle.std.proofs.Common.{◌≤◌, ℕ, suc, Option, Some, None, List, [], ◌∷◌, length, arith}
use Rattle.idl_lex.specs.EscapeSteps.{escape_step, given, unescaped_from, unescaped}
use Rattle.idl_lex.specs.declared.escape.Escape.{Escape}
use Rattle.idl_lex.specs.declared.escape.Escape.TheVariants.{Outside}

given_length : (o : Option ℕ) (bytes : List ℕ) → length (given o bytes) ≤ suc (length bytes)
given_length None bytes = omega arith
given_length (Some b) bytes = omega arith

length_from : (escape : Escape) (bytes : List ℕ) → length (unescaped_from escape bytes) ≤ length bytes
unfolding unescaped_from
length_from escape [] = omega arith
length_from escape (b ∷ bytes) =
    let one = given_length (escape_step escape b).1 (unescaped_from (escape_step escape b).0 bytes) in
    let rest = length_from (escape_step escape b).0 bytes in
    omega arith

pub unescaped_length : (bytes : List ℕ) → length (unescaped bytes) ≤ length bytes
unescaped_length bytes = length_from Outside bytes
