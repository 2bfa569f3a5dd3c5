-- What is known of names (docs/IDL.md, "Rules").
use Rattle.std.specs.Prelude.{ℕ, Bool, true, false, ◌&&◌, if◌then◌else◌, Option, Some, None, List, [], ◌∷◌, ◌++◌, fold}
use Rattle.std.specs.List.{list_any}
use Rattle.std.specs.Str.{bytes_eq}
use Rattle.idl_scene.specs.declared.known.Room.{Room}

-- the words, each once
abbrev pub once_more : List (List ℕ) → List ℕ → List (List ℕ)
once_more words word = if list_any (bytes_eq word) words then words else words ++ word ∷ []

abbrev pub each_once : List (List ℕ) → List (List ℕ)
each_once words = fold once_more [] words

-- What a name was declared as. Of a struct the depth, how many values its default has, and its members' names; of an
-- enum the enumerators' names.
pub data Meaning : Type 0 where
  a_struct : ℕ → ℕ → List (List ℕ) → Meaning
  an_enum : List (List ℕ) → Meaning
  no_type : Meaning

-- a name of a module
pub record Known : Type 0 where
  pub home : List ℕ
  pub name : List ℕ
  pub meaning : Meaning

-- what the name means in the module: as it was declared first
abbrev pub find : List ℕ → List ℕ → List Known → Option Meaning
find home name [] = None
find home name (k ∷ known) = if bytes_eq home k.home && bytes_eq name k.name then Some k.meaning else find home name known

-- Where something stands: the number and the text of its file, its module's name, what is known of the names declared
-- before it, and how many declarations of each sort may still come.
pub record Scene : Type 0 where
  pub file : ℕ
  pub text : List ℕ
  pub home : List ℕ
  pub known : List Known
  pub room : Room

abbrev pub is_struct : Option Meaning → Bool
is_struct (Some (a_struct depth size members)) = true
is_struct _ = false

abbrev pub is_enum : Option Meaning → Bool
is_enum (Some (an_enum names)) = true
is_enum _ = false

-- 0 where there is no such struct
abbrev pub depth_of : Option Meaning → ℕ
depth_of (Some (a_struct depth size members)) = depth
depth_of _ = 0

-- 1 where there is no such struct
abbrev pub size_of : Option Meaning → ℕ
size_of (Some (a_struct depth size members)) = size
size_of _ = 1

-- the members of a struct
abbrev pub members_of : Option Meaning → List (List ℕ)
members_of (Some (a_struct depth size members)) = members
members_of _ = []

-- the enumerators of an enum
abbrev pub enumerators_of : Option Meaning → List (List ℕ)
enumerators_of (Some (an_enum names)) = names
enumerators_of _ = []
