-- What the calls of the benchmark leave in a slice: a body for the text of a value, and the text of a value for a body.
use Rattle.std.specs.Prelude.{◌≡◌, ◌⊎◌, ℕ, suc, Ok, List, [], ◌∷◌, length, take}
use Rattle.idl_parse.specs.Files.{File, IsFileText}
use Rattle.idl_rules.specs.Conditions.{faults_of}
use Rattle.idl_schema.specs.SchemaOf.{schema_of}
use Rattle.tars_codec.specs.Written.{written}
use Rattle.tars_decode.specs.Reads.{reads}
use Rattle.tars_model.specs.Declarations.{Declared, members_at}
use Rattle.tars_model.specs.declared.ty.Ty.TheVariants.{Struct}
use Rattle.tars_model.specs.declared.value.Value.{Value}
use Rattle.tars_model.specs.declared.value.Value.TheVariants as value
use Rattle.tars_wire.specs.Heads.{MAX_DEPTH}
use Rattle.tars_wire.specs.Spelled.{Spelled}
use Rattle.value_text.specs.Printed.{printed}
use Rattle.value_text.specs.Spelling.{IsWhole}
use Rattle.wire_words.specs.Tree.{WireFields}

-- a text is an interface file without a fault, which declares this, and the struct of this number last
pub record DeclaresLast (text : List ℕ) (d : Declared) (number : ℕ) : Type 0 where
  pub file : File
  pub is_text : file.text ≡ text
  pub is_file : IsFileText text file.entries
  pub no_fault : faults_of (file ∷ []) ≡ []
  pub declares : d ≡ schema_of (file ∷ [])
  pub last : suc number ≡ length d.structs

-- a text says these values of a struct's members
abbrev pub SaysValues : Declared → ℕ → List ℕ → List Value → Type 0
SaysValues d number text values = IsWhole d (Struct number) (value.Struct values) text

-- a body spells fields from which these values of a struct's members are read
abbrev pub ReadsValues : Declared → ℕ → List ℕ → List Value → Type 0
ReadsValues d number body values =
    (fields : WireFields) × Spelled MAX_DEPTH body fields × (reads d (members_at d number) fields ≡ Ok values)

-- the body spells the values that the text says of the interface's last struct
pub record EncodesTo (interface text body : List ℕ) : Type 0 where
  pub d : Declared
  pub number : ℕ
  pub values : List Value
  pub declares : DeclaresLast interface d number
  pub says : SaysValues d number text values
  pub spelled : body ≡ written d (members_at d number) values

-- the text is what is printed for the values that are read from the body as the interface's last struct
pub record DecodesTo (interface body text : List ℕ) : Type 0 where
  pub d : Declared
  pub number : ℕ
  pub values : List Value
  pub declares : DeclaresLast interface d number
  pub reads : ReadsValues d number body values
  pub is_printed : text ≡ printed d (Struct number) (value.Struct values)

-- nothing is left in a slice, or its first bytes are such
abbrev pub Leaves : (List ℕ → Type 0) → ℕ → List ℕ → Type 0
Leaves Are len out = (len ≡ 0) ⊎ Are (take len out)
