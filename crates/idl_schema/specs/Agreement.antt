-- For the proofs: what is known of names, and what is declared, are the same.
use Rattle.std.specs.Prelude.{◌≡◌, ◌<◌, ◌≤◌, ◌+◌, ℕ, suc, true, false, Option, Some, None, is_some, List, length, map, slice_index}
use Rattle.std.specs.List.{AllByRecursion}
use Rattle.tars_model.specs.Declarations.{Declared, members_at, items_at}
use Rattle.tars_model.specs.Schemas.{declared_names, add_up, value_size, NamesMember}
use Rattle.tars_model.specs.Types.{depths_of}
use Rattle.tars_model.specs.Values.{is_signed}
use Rattle.tars_model.specs.declared.enum_desc.Item.{Item as Enumerator}
use Rattle.tars_model.specs.declared.member.Member.{Member}
use Rattle.idl_scene.specs.Known.{Meaning, a_struct, an_enum, Scene, each_once, find}
use Rattle.idl_scene.specs.Types.{is_type}
use Rattle.idl_rules.specs.Conditions.{State}
use Rattle.idl_schema.specs.SchemaOf.{Place, struct_number, enum_number}

-- the struct of this number has this depth, this many values in its default, and members of these names
pub record StructIs (d : Declared) (number depth size : ℕ) (members : List (List ℕ)) : Type 0 where
  pub within : number < length d.structs
  pub deep : slice_index (depths_of d.structs) number ≡ depth
  pub shallow : depth ≤ 32
  pub sized : suc (add_up (map (λ (m : Member). value_size m.default) (members_at d number))) ≡ size
  pub named : AllByRecursion (NamesMember (members_at d number)) members

-- the enum of this number has enumerators of these names, each once
pub record EnumIs (d : Declared) (number : ℕ) (names : List (List ℕ)) : Type 0 where
  pub within : number < length d.enums
  pub named : each_once (map (λ (i : Enumerator). i.name) (items_at d number)) ≡ names
  pub ints : AllByRecursion (λ (i : Enumerator). is_signed 31 i.number ≡ true) (items_at d number)

-- what a name means, where these are its numbers among structs and among enums
pub data MeansIn (d : Declared) (meaning : Option Meaning) (s e : Option ℕ) : Type 0 where
  struct_meant : {number depth size : ℕ} {members : List (List ℕ)} → meaning ≡ Some (a_struct depth size members) → s ≡ Some number → StructIs d number depth size members → MeansIn d meaning s e
  enum_meant : {number : ℕ} {names : List (List ℕ)} → meaning ≡ Some (an_enum names) → s ≡ None → e ≡ Some number → EnumIs d number names → MeansIn d meaning s e
  no_type_meant : is_type meaning ≡ false → s ≡ None → e ≡ None → MeansIn d meaning s e

pub record Agrees (state : State) (d : Declared) : Type 0 where
  pub means : (home name : List ℕ) → MeansIn d (find home name state.known) (struct_number d home name) (enum_number d home name)
  pub taken : AllByRecursion (λ (n : List ℕ × List ℕ). is_some (find n.0 n.1 state.known) ≡ true) (declared_names d)
  pub structs : state.room.structs + length d.structs ≡ 1024
  pub enums : state.room.enums + length d.enums ≡ 1024
  pub consts : state.room.consts + length d.consts ≡ 1024
  pub interfaces : state.room.interfaces + length d.interfaces ≡ 256

-- where something stands, as the schema sees it
abbrev pub place_in : Declared → Scene → Place
place_in d s = record { so_far = d; text = s.text; home = s.home }
