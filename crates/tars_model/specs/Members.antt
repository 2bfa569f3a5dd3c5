-- The members that stand for a call's arguments and for its reply (docs/PROTOCOL.md, "Bodies").
use Rattle.std.specs.Prelude.{ℕ, ◌+◌, ◌<◌, Bool, true, not, if◌then◌else◌, pos, Option, Some, None, List, [], ◌∷◌, ◌++◌}
use Rattle.tars_model.specs.declared.func_desc.Direction.{Direction}
use Rattle.tars_model.specs.declared.func_desc.Direction.TheVariants.{In, Out}
use Rattle.tars_model.specs.declared.func_desc.FuncDesc.{FuncDesc}
use Rattle.tars_model.specs.declared.func_desc.Param.{Param}
use Rattle.tars_model.specs.declared.member.Member.{Member}
use Rattle.tars_model.specs.declared.ty.Ty.{Ty}
use Rattle.tars_model.specs.declared.value.Value.{Num}

-- how many parameters a function may have
abbrev pub MAX_PARAMS : ℕ
MAX_PARAMS = 64

-- a required member; nothing reads its default
abbrev pub required : ℕ → Ty → List ℕ → Member
required tag ty name = record { tag = tag; require = true; ty = ty; name = name; default = Num (pos 0) }

-- whether a parameter goes with the call, or comes back with the reply
abbrev pub goes : Direction → Param → Bool
goes In p = not p.out
goes Out p = p.out

-- the parameters of a direction, each under its number, from a first number on
abbrev pub params_from : ℕ → Direction → List Param → List Member
params_from tag direction [] = []
params_from tag direction (p ∷ ps) =
    if goes direction p then required tag p.ty p.name ∷ params_from (tag + 1) direction ps
    else params_from (tag + 1) direction ps

abbrev pub arguments_of : FuncDesc → List Member
arguments_of f = params_from 1 In f.params

-- what is returned has tag 0
abbrev pub returned : Option Ty → List Member
returned None = []
returned (Some ty) = required 0 ty [] ∷ []

abbrev pub reply_members_of : FuncDesc → List Member
reply_members_of f = returned f.ret ++ params_from 1 Out f.params

-- the tags of members rise
abbrev pub IsBelowNext : ℕ → List Member → Type 0
IsBelowNext tag [] = Unit {0}
IsBelowNext tag (m ∷ ms) = tag < m.tag

abbrev pub HaveRisingTags : List Member → Type 0
HaveRisingTags [] = Unit {0}
HaveRisingTags (m ∷ ms) = IsBelowNext m.tag ms × HaveRisingTags ms
