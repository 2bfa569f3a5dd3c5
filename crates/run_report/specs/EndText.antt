-- How a call came out, in words (docs/SCRIPTS.md, "Reports").
use Rattle.std.specs.Prelude.{ℕ, if◌then◌else◌, Option, Some, None, List, [], ◌∷◌, ◌++◌, codes}
use Rattle.std.specs.Fmt.{signed_decimal}
use Rattle.tars_model.specs.Declarations.{Declared}
use Rattle.tars_model.specs.declared.func_desc.FuncDesc.{FuncDesc}
use Rattle.tars_model.specs.declared.func_desc.Param.{Param}
use Rattle.tars_model.specs.declared.ty.Ty.{Ty}
use Rattle.tars_model.specs.declared.value.Value.{Value}
use Rattle.refuse_lines.specs.RefuseText.{refuse_text}
use Rattle.value_text.specs.Printed.{printed}
use Rattle.script_session.specs.ReportWords.{refusal_text}
use Rattle.script_session.specs.declared.report.End.{End}
use Rattle.script_session.specs.declared.report.End.TheVariants.{Value as ValueEnd, Code, Undecoded, Closed, Refused}

-- ` NAME=VALUE`, of a parameter that comes back
unfoldable pub out_text : Declared → Param → Value → List ℕ
out_text d p v = codes " " ++ p.name ++ codes "=" ++ printed d p.ty v

-- the parameters that come back, each with its value
abbrev pub outs_text : Declared → List Param → List Value → List ℕ
outs_text d [] vs = []
outs_text d (p ∷ ps) [] = []
outs_text d (p ∷ ps) (v ∷ vs) = if p.out then out_text d p v ++ outs_text d ps vs else outs_text d ps (v ∷ vs)

-- what is returned, or `void`, and then what comes back in parameters
abbrev pub returned_text : Declared → Option Ty → List Param → List Value → List ℕ
returned_text d None params vs = codes "void" ++ outs_text d params vs
returned_text d (Some t) params [] = []
returned_text d (Some t) params (v ∷ vs) = printed d t v ++ outs_text d params vs

-- the values of a function's reply; a function that is not there has none
unfoldable pub values_text : Declared → Option FuncDesc → List Value → List ℕ
values_text d None vs = []
values_text d (Some func) vs = returned_text d func.ret func.params vs

-- the end of a call of a function, with the types that the caller's file declares
unfoldable pub end_text : Declared → Option FuncDesc → End → List ℕ
end_text d func (ValueEnd link packet values) = codes "value " ++ values_text d func values
end_text d func (Code link packet code) = codes "code " ++ signed_decimal code
end_text d func (Undecoded link packet why) = codes "code -12 " ++ refuse_text why
end_text d func Closed = codes "closed"
end_text d func (Refused why) = codes "refused " ++ refusal_text why
