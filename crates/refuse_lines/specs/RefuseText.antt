-- How a refusal of `decode` is written (docs/SCRIPTS.md, "Refusals"; docs/PROTOCOL.md, "Reading members").
use Rattle.std.specs.Prelude.{ℕ, List, [], ◌++◌, codes}
use Rattle.std.specs.Fmt.{decimal}
use Rattle.std.specs.List.{join_by}
use Rattle.tars_decode.specs.declared.refuse.Misfit.{Misfit}
use Rattle.tars_decode.specs.declared.refuse.Misfit.TheVariants.{WrongType, Range, TwiceKey}
use Rattle.tars_decode.specs.declared.refuse.Refuse.{Refuse}
use Rattle.tars_decode.specs.declared.refuse.Refuse.TheVariants.{Malformed, Missing, Mismatch, Memory}
use Rattle.tars_wire.specs.Faults.{number_of}

abbrev pub misfit_text : Misfit → List ℕ
misfit_text WrongType = codes "wrongtype"
misfit_text Range = codes "range"
misfit_text TwiceKey = codes "twicekey"

-- the steps of a path from the outside in, with `/` between them
abbrev pub path_text : List ℕ → List ℕ
path_text path = join_by decimal (codes "/") path

-- `malformed NUMBER at OFFSET`, `missing PATH` or `mismatch PATH WHY`; nothing is told of want of memory
unfoldable pub refuse_text : Refuse → List ℕ
refuse_text (Malformed fault) = codes "malformed " ++ decimal (number_of fault.why) ++ codes " at " ++ decimal fault.at
refuse_text (Missing path) = codes "missing " ++ path_text path
refuse_text (Mismatch path why) = codes "mismatch " ++ path_text path ++ codes " " ++ misfit_text why
refuse_text Memory = []
