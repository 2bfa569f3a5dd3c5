-- For the proofs: numbers as the code keeps them.
use Rattle.std.specs.Prelude.{ℕ, nat_lt, if◌then◌else◌, ℤ, pos, negsuc, Option, Some, None}
use Rattle.tars_model.specs.Values.{is_signed}
use Rattle.idl_lex.specs.Meanings.{whole_number}
use Rattle.idl_lex.specs.declared.span.Span.{Span}
use Rattle.idl_scene.specs.Items.{word}
use Rattle.idl_scene.specs.Known.{Scene}

-- a number, if it is an i64
abbrev pub long_of : ℤ → Option ℤ
long_of n = if is_signed 63 n then Some n else None

-- a number, if it is a tag
abbrev pub tag_number : ℤ → Option ℕ
tag_number (pos n) = if nat_lt n 256 then Some n else None
tag_number (negsuc n) = None

abbrev pub tag_of_option : Option ℤ → Option ℕ
tag_of_option None = None
tag_of_option (Some n) = tag_number n

abbrev pub tag_at : Scene → Span → Option ℕ
tag_at s span = tag_number (whole_number (word s.text span))

-- a number, if it is an int
abbrev pub int_of : ℤ → Option ℤ
int_of n = if is_signed 31 n then Some n else None

abbrev pub int_of_option : Option ℤ → Option ℤ
int_of_option None = None
int_of_option (Some n) = int_of n
