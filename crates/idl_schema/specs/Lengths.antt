-- How long the texts of interface files are together.
use Rattle.std.specs.Prelude.{ℕ, ◌+◌, List, [], ◌∷◌, length}
use Rattle.idl_parse.specs.Files.{File}

-- the sum of the lengths of the files' texts, in bytes
abbrev pub total_length : List File → ℕ
total_length [] = 0
total_length (file ∷ files) = length file.text + total_length files
