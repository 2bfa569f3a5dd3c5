-- The words of a row.
use Rattle.std.specs.Prelude.{◌==◌, ℕ, Bool}

abbrev pub is_space : ℕ → Bool
is_space byte = byte == 32

abbrev pub is_tilde : ℕ → Bool
is_tilde byte = byte == 126
