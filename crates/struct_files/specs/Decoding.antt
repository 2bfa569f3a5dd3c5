-- What `decode` gives (docs/SCRIPTS.md, "Values of a struct").
use Rattle.std.specs.Prelude.{◌≡◌, ℕ, Ok, Err, List, ◌++◌, codes}
use Rattle.hex_text.specs.HexText.{HexSpells, IsHexFault}
use Rattle.refuse_lines.specs.RefuseText.{refuse_text}
use Rattle.schema_files.specs.Refusals.{refusal_line, fault_at}
use Rattle.schema_files.specs.declared.stage.Stage.TheVariants.{Hex}
use Rattle.struct_files.specs.Answers.{TextAnswer, done, refused, Gives}
use Rattle.tars_base.specs.Contents.{Held}
use Rattle.tars_decode.specs.Reads.{reads}
use Rattle.tars_decode.specs.declared.halt.Refusal.{Refusal}
use Rattle.tars_decode.specs.declared.halt.Refusal.TheVariants.{Missing, Mismatch}
use Rattle.tars_decode.specs.declared.refuse.Refuse.{Refuse}
use Rattle.tars_decode.specs.declared.refuse.Refuse.TheVariants as refuse
use Rattle.tars_model.specs.Declarations.{Declared, members_at}
use Rattle.tars_model.specs.declared.ty.Ty.TheVariants.{Struct}
use Rattle.tars_model.specs.declared.value.Value.{Value}
use Rattle.tars_model.specs.declared.value.Value.TheVariants as value
use Rattle.tars_wire.specs.Faults.{IsFault}
use Rattle.tars_wire.specs.Heads.{MAX_DEPTH}
use Rattle.tars_wire.specs.Spelled.{Spelled}
use Rattle.tars_wire.specs.declared.wire_fault.WireFault.{WireFault}
use Rattle.value_text.specs.Printed.{printed}
use Rattle.wire_words.specs.Tree.{WireFields}

-- the values of a struct as text, in a line
unfoldable pub value_line : Declared → ℕ → List Value → List ℕ
value_line d number vs = printed d (Struct number) (value.Struct vs) ++ codes "\n"

-- `refused FILE` and why bytes give no values
unfoldable pub refuse_line : List ℕ → Refuse → List ℕ
refuse_line file why = codes "refused " ++ file ++ codes " " ++ refuse_text why ++ codes "\n"

-- what refuses the fields of a body
abbrev pub refuse_of : Refusal → Refuse
refuse_of (Missing path) = refuse.Missing path
refuse_of (Mismatch path why) = refuse.Mismatch path why

-- The text of the file `hex` spells a body, from which the struct's members are read; or it has a fault, or its bytes have
-- one, or its fields are refused.
pub data Decodes (hex : List ℕ) (d : Declared) (number : ℕ) (text : List ℕ) : TextAnswer → Type 0 where
  bad_hex :
      (at : ℕ) → IsHexFault text at → Decodes hex d number text (refused (refusal_line hex (fault_at Hex 1 at)))
  no_body :
      (bytes : List ℕ) (fault : WireFault) → HexSpells bytes text → IsFault bytes fault
      → Decodes hex d number text (refused (refuse_line hex (refuse.Malformed fault)))
  bad_fields :
      (bytes : List ℕ) (fields : WireFields) (refusal : Refusal) → HexSpells bytes text → Spelled MAX_DEPTH bytes fields
      → reads d (members_at d number) fields ≡ Err refusal
      → Decodes hex d number text (refused (refuse_line hex (refuse_of refusal)))
  values :
      (bytes : List ℕ) (fields : WireFields) (vs : List Value) → HexSpells bytes text → Spelled MAX_DEPTH bytes fields
      → reads d (members_at d number) fields ≡ Ok vs → Decodes hex d number text (done (value_line d number vs))

-- `decode FILE STRUCT HEX` gives this for the struct `home::name`.
abbrev pub DecodesFile : Held → List ℕ → List ℕ → List ℕ → List ℕ → TextAnswer → Type 0
DecodesFile held file home name hex answer = Gives (Decodes hex) held file home name hex answer
