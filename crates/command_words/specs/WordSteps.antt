-- For the proofs: how the arguments are read, as the functions of src/reading.rt do.
use Rattle.std.specs.Prelude.{ℕ, Bool, true, false, if◌then◌else◌, List, [], ◌∷◌, take, drop, Option, Some, None, codes}
use Rattle.std.specs.Char.{is_ascii_alphabetic}
use Rattle.std.specs.Str.{bytes_eq}
use Rattle.clap.specs.Walk.{Row, first_of}
use Rattle.facts.specs.OptionSteps.{◌>>=◌}
use Rattle.idl_lex.specs.Bytes.{begins, is_word_byte}
use Rattle.idl_lex.specs.LexSteps.{run, after_run}
use Rattle.tars_model.specs.declared.struct_name.StructName.{StructName}
use Rattle.command_words.specs.Asked.{Asked, check, plan, encode, decode, compat}
use Rattle.command_words.specs.declared.request.OldNew.{OldNew}
use Rattle.command_words.specs.declared.request.OnStruct.{OnStruct}

-- a module and a name
abbrev pub named_by : StructName → List ℕ × List ℕ
named_by of = (of.«module».now, of.name.now)

-- the identifier or keyword at the start, and what stands after it
abbrev pub split_word : List ℕ → Option (List ℕ × List ℕ)
split_word bytes =
    if begins is_ascii_alphabetic bytes then Some (run is_word_byte bytes, after_run is_word_byte bytes) else None

-- what stands after `::`
abbrev pub after_sign : List ℕ → Option (List ℕ)
after_sign bytes = if bytes_eq (take 2 bytes) (codes "::") then Some (drop 2 bytes) else None

abbrev pub is_empty : List ℕ → Bool
is_empty [] = true
is_empty (b ∷ bytes) = false

-- the module and name that a word says
unfoldable pub struct_of : List ℕ → Option (List ℕ × List ℕ)
struct_of word = do
  home ← split_word word
  rest ← after_sign home.1
  name ← split_word rest
  if is_empty name.1 then Some (home.0, name.0) else None

-- the same of an interface file and a file with values
abbrev pub OnStructs : Type 0
OnStructs = List ℕ × (List ℕ × List ℕ) × List ℕ

abbrev pub on_struct_by : OnStruct → OnStructs
on_struct_by on = (on.file.now, named_by on.of, on.values.now)

unfoldable pub on_struct : List ℕ → List Row → Option OnStructs
on_struct values rows = do
  file ← first_of (codes "FILE") rows
  word ← first_of (codes "STRUCT") rows
  of ← struct_of word
  own ← first_of values rows
  Some (file, of, own)

-- the same of two interface files
abbrev pub OldNews : Type 0
OldNews = List ℕ × List ℕ × (List ℕ × List ℕ)

abbrev pub old_new_by : OldNew → OldNews
old_new_by on = (on.old.now, on.new.now, named_by on.of)

unfoldable pub old_new : List Row → Option OldNews
old_new rows = do
  old ← first_of (codes "OLD") rows
  new ← first_of (codes "NEW") rows
  word ← first_of (codes "STRUCT") rows
  of ← struct_of word
  Some (old, new, of)

-- what a command asks for by what stands in the places of its words
unfoldable pub of_two : List ℕ → List Row → Option Asked
of_two command rows =
    if bytes_eq command (codes "compat") then (old_new rows >>= λ on. Some (compat on.0 on.1 on.2.0 on.2.1))
    else None

unfoldable pub of_struct : List ℕ → List Row → Option Asked
of_struct command rows =
    if bytes_eq command (codes "encode") then (on_struct (codes "VALUES") rows >>= λ on. Some (encode on.0 on.1.0 on.1.1 on.2))
    else (if bytes_eq command (codes "decode") then (on_struct (codes "HEX") rows >>= λ on. Some (decode on.0 on.1.0 on.1.1 on.2))
    else of_two command rows)

unfoldable pub of_words : List ℕ → List Row → Option Asked
of_words command rows =
    if bytes_eq command (codes "check") then (first_of (codes "FILE") rows >>= λ file. Some (check file))
    else (if bytes_eq command (codes "plan") then (first_of (codes "SCRIPT") rows >>= λ script. Some (plan script))
    else of_struct command rows)

-- what a command and its words ask for, where `clap` found one
abbrev pub asked_at : Option (List ℕ × List Row) → Option Asked
asked_at met = met >>= λ p. of_words p.0 p.1
