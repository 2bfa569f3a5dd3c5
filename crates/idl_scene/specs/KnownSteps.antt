-- For the proofs: what is known of a name, as the code keeps it.
use Rattle.std.specs.Prelude.{ℕ, Option, Some, None, List}
use Rattle.std.specs.Borrow.{Bor}
use Rattle.idl_scene.specs.Known.{Meaning, a_struct, an_enum, no_type, Known}
use Rattle.idl_scene.specs.declared.known.Meaning.{Meaning as Kept}
use Rattle.idl_scene.specs.declared.known.Meaning.TheVariants.{Struct, Enum, NoType}

abbrev pub kept_meaning : Kept → Meaning
kept_meaning (Struct depth size members) = a_struct depth size members
kept_meaning (Enum names) = an_enum names
kept_meaning NoType = no_type

abbrev pub meant : Option (Bor Kept) → Option Meaning
meant None = None
meant (Some kept) = Some (kept_meaning kept.now)

abbrev pub known_entry : List ℕ → List ℕ → Kept → Known
known_entry home name kept = record { home = home; name = name; meaning = kept_meaning kept }
