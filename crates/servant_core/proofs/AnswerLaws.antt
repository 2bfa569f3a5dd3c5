-- What is answered and handled, by what a request asks for.
use Rattle.std.proofs.Common.{◌≡◌, ℕ, ℤ, Bool, true, false, ◌<◌, ◌^◌, FitsSigned, w32, to_z, of_z, arith, List, [], ◌∷◌, Option, Some, None, refl, sym, subst, ◌∙◌}
use lib.Signed.{mag}
use Rattle.std.proofs.lemmas.Int.{to_z-of_z}
use Rattle.std.specs.Prelude.{slice_get, Result, Ok, Err, OnOk}
use Rattle.tars_model.specs.Declarations.{Declared}
use Rattle.tars_model.specs.declared.func_desc.FuncDesc.{FuncDesc}
use Rattle.tars_model.specs.declared.value.Value.{Value}
use Rattle.rpc_packet.specs.declared.request.Request.{Request}
use Rattle.rpc_packet.specs.declared.response.Response.{Response}
use Rattle.servant_core.specs.Answers.{is_one, cases, first_code, asked_call, refusal, code_alone, replied, answered, handled_by}
use Rattle.servant_core.specs.AnswerSteps.{Asks}
use Rattle.servant_core.specs.Functions.{functions_of}
use Rattle.servant_core.specs.Servants.{Handled, IsAfter, IsNext, Meaning}
use Rattle.servant_core.specs.declared.answering.Asked.{Asked}
use Rattle.servant_core.specs.declared.answering.Asked.TheVariants as asked
use Rattle.servant_core.specs.declared.replies.Reply.{Reply}

pub on_ok : {A E : Type 0} (result : Result A E) (P : Type 0) → P → OnOk result P
on_ok (Ok value) P holds = holds
on_ok (Err why) P holds = tt

abbrev pub call_of : ℕ → List Value → ℕ → Handled
call_of func args now = record { func = func; args = args; moment = now }

-- ---- the codes of cases are ints

abbrev AreInts : List (Bool × ℤ) → Type 0
AreInts [] = Unit {0}
AreInts (case ∷ cases) = FitsSigned w32 case.1 × AreInts cases

first_fits : (code : ℤ) (cs : List (Bool × ℤ)) → AreInts cs → first_code cs ≡ Some code → FitsSigned w32 code
first_fits code [] ints is = absurd cc
first_fits code ((true, own) ∷ cs) ints is = subst (FitsSigned w32) (some_is is) ints.0
  where
    some_is : {x y : ℤ} → Some x ≡ Some y → x ≡ y
    some_is e = cc
first_fits code ((false, own) ∷ cs) ints is = first_fits code cs ints.1 is

is_int : {code : ℤ} → mag code < 2 ^ 31 → FitsSigned w32 code
is_int small = record { sfits = small }

code_fits : (d : Declared) (funcs : List FuncDesc) (name : List ℕ) (r : Request) (code : ℤ) → first_code (cases d funcs name r) ≡ Some code → FitsSigned w32 code
code_fits d funcs name r code =
    first_fits code (cases d funcs name r) (is_int (omega arith), (is_int (omega arith), (is_int (omega arith), (is_int (omega arith), (is_int (omega arith), tt)))))

-- ---- requests

module _ (d : Declared) (interface : ℕ) (name : List ℕ) (r : Request) (now : ℕ) where
  -- a one-way request
  pub one_way : (reply : Handled → Reply) (test : Bool) → test ≡ is_one r.kind → test ≡ true
      → None ≡ answered d interface name reply r now
  unfolding answered
  one_way reply test is holds = rw (sym is ∙ holds) refl

  -- the code of a case
  module _ (code : ℤ) (ask : Asked) (is_code : ask ≡ asked.Code code) (asks : Asks d (functions_of d interface) name r ask) where
    said_code : Asks d (functions_of d interface) name r (asked.Code code)
    said_code = subst (λ (a : Asked). Asks d (functions_of d interface) name r a) is_code asks

    code_is : refusal d interface name r ≡ Some code
    unfolding refusal
    code_is = said_code

    pub code_answered : (reply : Handled → Reply) (test : Bool) → test ≡ is_one r.kind → test ≡ false
        → (response : Response) → response ≡ code_alone r (to_z w32 (of_z w32 code)) → Some response ≡ answered d interface name reply r now
    unfolding answered
    code_answered reply test is other response alone =
        let same : to_z w32 (of_z w32 code) ≡ code = to_z-of_z w32 code (code_fits d (functions_of d interface) name r code said_code) in
        rw (sym is ∙ other, code_is, alone, same) refl

    pub code_handled : (meaning : Meaning) → IsAfter meaning (handled_by d interface name r now) meaning
    unfolding handled_by
    code_handled meaning = rw code_is (λ earlier last. refl)

  -- a call
  module _ (func : ℕ) (args slice : List Value) (ask : Asked) (is_call : ask ≡ asked.Call func args) (same : slice ≡ args)
      (asks : Asks d (functions_of d interface) name r ask) where
    said_call : Asks d (functions_of d interface) name r (asked.Call func slice)
    said_call = rw same (subst (λ (a : Asked). Asks d (functions_of d interface) name r a) is_call asks)

    none_is : refusal d interface name r ≡ None
    unfolding refusal
    none_is = said_call.0

    call_is : asked_call d (functions_of d interface) r now ≡ Some (call_of func slice now)
    call_is = rw (said_call.2, said_call.1) refl

    pub call_handled : (old new : Meaning) → IsNext old (call_of func slice now) new → IsAfter old (handled_by d interface name r now) new
    unfolding handled_by
    call_handled old new next = rw (none_is, call_is) next

    pub call_answered : (reply : Handled → Reply) (test : Bool) → test ≡ is_one r.kind → test ≡ false
        → (desc : FuncDesc) (said : Reply) (response : Option Response) → slice_get (functions_of d interface) func ≡ Some desc
        → said ≡ reply (call_of func slice now) → response ≡ replied d (Some desc) r said → response ≡ answered d interface name reply r now
    unfolding answered
    call_answered reply test is other desc said response found replies is_replied =
        rw (sym is ∙ other, none_is, call_is, found, sym replies) is_replied
