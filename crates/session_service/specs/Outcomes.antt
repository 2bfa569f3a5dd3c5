-- How reading the body of a reply comes out.
use Rattle.std.specs.Prelude.{◌≡◌, Result, Ok, Err, List}
use Rattle.tars_model.specs.declared.value.Value.{Value}
use Rattle.tars_decode.specs.declared.refuse.Refuse.{Refuse}
use Rattle.tars_decode.specs.declared.refuse.Refuse.TheVariants as refuse

-- what is read is what the bytes say, or why they say nothing; want of memory says nothing
abbrev pub IsRead : Result (List Value) Refuse → Result (List Value) Refuse → Type 0
IsRead (Ok values) said = said ≡ Ok values
IsRead (Err (refuse.Malformed fault)) said = said ≡ Err (refuse.Malformed fault)
IsRead (Err (refuse.Missing path)) said = said ≡ Err (refuse.Missing path)
IsRead (Err (refuse.Mismatch path why)) said = said ≡ Err (refuse.Mismatch path why)
IsRead (Err refuse.Memory) said = Unit {0}
