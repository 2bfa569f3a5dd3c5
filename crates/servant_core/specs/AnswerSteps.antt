-- The steps of `answer`: for the proofs.
use Rattle.std.specs.Prelude.{◌≡◌, ◌<◌, ℕ, ℤ, not, Bool, true, Option, Some, None, List, [], ◌∷◌, length, slice_get}
use Rattle.std.specs.Str.{bytes_eq}
use Rattle.tars_model.specs.Declarations.{Declared}
use Rattle.tars_model.specs.Members.{arguments_of}
use Rattle.tars_model.specs.Values.{fit_members}
use Rattle.tars_model.specs.declared.func_desc.FuncDesc.{FuncDesc}
use Rattle.tars_model.specs.declared.value.Value.{Value}
use Rattle.rpc_packet.specs.declared.request.Request.{Request}
use Rattle.servant_core.specs.Answers.{SUCCESS, NOT_READ, NO_SERVANT, PING, is_one, cases, first_code, asked_function, asked_arguments}
use Rattle.servant_core.specs.declared.answering.Asked.{Asked}
use Rattle.servant_core.specs.declared.answering.Asked.TheVariants as asked

-- the cases that need no function
abbrev pub early_cases : List ℕ → Request → List (Bool × ℤ)
early_cases name r =
    (not (is_one r.version), NOT_READ) ∷ (not (bytes_eq r.servant name), NO_SERVANT) ∷ (bytes_eq r.func PING, SUCCESS) ∷ []

-- the arguments fit the function
abbrev pub FitArguments : Declared → Option FuncDesc → List Value → Type 0
FitArguments d None args = ⊥
FitArguments d (Some func) args = fit_members d (arguments_of func) args ≡ true

-- a case holds, or a function is called
abbrev pub Asks : Declared → List FuncDesc → List ℕ → Request → Asked → Type 0
Asks d funcs name r (asked.Code code) = first_code (cases d funcs name r) ≡ Some code
Asks d funcs name r (asked.Call func args) =
    (first_code (cases d funcs name r) ≡ None) × (asked_function funcs r ≡ Some func) × (asked_arguments d funcs r ≡ Some args)
    × (func < length funcs) × FitArguments d (slice_get funcs func) args
