-- What `encode` gives (docs/SCRIPTS.md, "Values of a struct").
use Rattle.std.specs.Prelude.{ℕ, List, ◌++◌, codes}
use Rattle.hex.specs.Hex.{encode_upper}
use Rattle.schema_files.specs.Refusals.{refusal_line, fault_at}
use Rattle.schema_files.specs.declared.stage.Stage.TheVariants as stage
use Rattle.struct_files.specs.Answers.{TextAnswer, done, refused, Gives}
use Rattle.tars_base.specs.Contents.{Held}
use Rattle.tars_codec.specs.Written.{written}
use Rattle.tars_model.specs.Declarations.{Declared, members_at}
use Rattle.tars_model.specs.declared.ty.Ty.TheVariants.{Struct}
use Rattle.tars_model.specs.declared.value.Value.{Value}
use Rattle.tars_model.specs.declared.value.Value.TheVariants as value
use Rattle.value_text.specs.Faults.{WholeFaultOf}
use Rattle.value_text.specs.Spelling.{IsWhole}
use Rattle.value_text.specs.ValueWhy.{number_of}
use Rattle.value_text.specs.declared.value_fault.ValueWhy.{ValueWhy}

-- bytes in hexadecimal, as a line
unfoldable pub hex_line : List ℕ → List ℕ
hex_line bytes = encode_upper bytes ++ codes "\n"

-- The text of the file `values` says a value of the struct, of which the members are written as a body; or it has a fault.
pub data Encodes (values : List ℕ) (d : Declared) (number : ℕ) (text : List ℕ) : TextAnswer → Type 0 where
  bad_value :
      (at : ℕ) (why : ValueWhy) → WholeFaultOf d (Struct number) text at why
      → Encodes values d number text (refused (refusal_line values (fault_at stage.Value (number_of why) at)))
  body :
      (vs : List Value) → IsWhole d (Struct number) (value.Struct vs) text
      → Encodes values d number text (done (hex_line (written d (members_at d number) vs)))

-- `encode FILE STRUCT VALUES` gives this for the struct `home::name`.
abbrev pub EncodesFile : Held → List ℕ → List ℕ → List ℕ → List ℕ → TextAnswer → Type 0
EncodesFile held file home name values answer = Gives (Encodes values) held file home name values answer
