-- Faults of interface files, and their order (docs/IDL.md, "Rules").
use Rattle.std.specs.Prelude.{ℕ, nat_eq, nat_lt, Bool, if◌then◌else◌, List, [], ◌∷◌}
use Rattle.idl_scene.specs.declared.check_fault.CheckWhy.{CheckWhy}
use Rattle.idl_scene.specs.declared.check_fault.CheckWhy.TheVariants.{NoInclude, TwiceName, UnknownName, BadIdentifier, TwiceTag, TagRange, Float, BadKey, BadDefault, TooDeep, LeftOut, TooMany}
use Rattle.idl_scene.specs.declared.check_fault.Fault.{Fault}

abbrev pub number_of : CheckWhy → ℕ
number_of NoInclude = 1
number_of TwiceName = 2
number_of UnknownName = 3
number_of BadIdentifier = 4
number_of TwiceTag = 5
number_of TagRange = 6
number_of Float = 7
number_of BadKey = 8
number_of BadDefault = 9
number_of TooDeep = 10
number_of LeftOut = 11
number_of TooMany = 12

-- in an earlier file, at a lesser place in one file, or of a lesser number at one place
abbrev pub is_below : Fault → Fault → Bool
is_below a b =
    if nat_eq a.file b.file
    then (if nat_eq a.at b.at then nat_lt (number_of a.why) (number_of b.why) else nat_lt a.at b.at)
    else nat_lt a.file b.file

abbrev pub fault_if : Bool → ℕ → ℕ → CheckWhy → List Fault
fault_if fails file at why = if fails then record { file = file; at = at; why = why } ∷ [] else []
