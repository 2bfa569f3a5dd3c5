-- Files in memory: their names and bytes, and the calls made on them.
use Rattle.std.specs.Prelude.{ℕ, Bool, ◌||◌, List, find, is_none, string_bytes}
use Rattle.std.specs.Option.{option_map}
use Rattle.std.specs.Str.{bytes_eq}
use Rattle.tars_base.specs.Calls.{Calls, fails_next}
use Rattle.tars_base.specs.Contents.{Contents}
use Rattle.tars_base.specs.declared.named_file.NamedFile.{NamedFile}

-- a name, and the bytes under it
abbrev pub named : NamedFile → List ℕ × List ℕ
named file = (string_bytes file.name, file.bytes.items)

pub record FilesState : Type 0 where
  pub files : List (List ℕ × List ℕ)
  pub calls : Calls

-- the bytes of the first file of a name
abbrev pub contents_of : List (List ℕ × List ℕ) → Contents
contents_of files name = option_map (λ file. file.1) (find (λ file. bytes_eq file.0 name) files)

-- whether the next read of this name fails: it is to fail, or there is no such file
abbrev pub fails_at : FilesState → List ℕ → Bool
fails_at state name = fails_next state.calls || is_none (contents_of state.files name)
