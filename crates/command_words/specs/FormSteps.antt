-- For the proofs: the commands, as src/app.rt makes them for `clap`.
use Rattle.std.specs.Prelude.{true, false, List, [], ◌∷◌, map, codes}
use Rattle.clap.specs.Words.{App, Rule, Shape, Text, new_rule}
use Rattle.clap.specs.Simple.{new_shape}

-- a word that a command must have
abbrev pub slot : Text → Rule
slot name = record (new_rule name) { required = true }

-- a command with these words after it
abbrev pub shape_named : Text → List Text → Shape
shape_named name words = record (new_shape name) { rules = map slot words }

-- the program with no command yet: its name is no word, and a command must be named
abbrev pub top : App
top = record { top = record (new_shape (codes "tars_tool")) { no_binary_name = true; subcommand_required = true }; subs = [] }

-- `check FILE`
abbrev pub check_form : Shape
check_form = shape_named (codes "check") (codes "FILE" ∷ [])

-- `plan SCRIPT`
abbrev pub plan_form : Shape
plan_form = shape_named (codes "plan") (codes "SCRIPT" ∷ [])

-- `encode FILE STRUCT VALUES`
abbrev pub encode_form : Shape
encode_form = shape_named (codes "encode") (codes "FILE" ∷ codes "STRUCT" ∷ codes "VALUES" ∷ [])

-- `decode FILE STRUCT HEX`
abbrev pub decode_form : Shape
decode_form = shape_named (codes "decode") (codes "FILE" ∷ codes "STRUCT" ∷ codes "HEX" ∷ [])

-- `compat OLD NEW STRUCT`
abbrev pub compat_form : Shape
compat_form = shape_named (codes "compat") (codes "OLD" ∷ codes "NEW" ∷ codes "STRUCT" ∷ [])

-- the program with its commands
abbrev pub forms : App
forms = record {
  top = record top.top { is_leaf = false };
  subs = check_form ∷ plan_form ∷ encode_form ∷ decode_form ∷ compat_form ∷ [];
}
