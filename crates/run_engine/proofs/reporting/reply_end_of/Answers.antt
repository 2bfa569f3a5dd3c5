use Rattle.std.proofs.Common.{◌≡◌, ℕ, ℤ, pos, negsuc, true, false, List, to_z, of_z, w32, refl, sym, ap, ◌∙◌, arith}
use Rattle.std.specs.Prelude.{Result, Ok, Err}
use Rattle.std.proofs.lemmas.Result.{IfOk-weaker}
use Rattle.tars_decode.specs.declared.refuse.Refuse.{Refuse}
use Rattle.tars_decode.specs.declared.refuse.Refuse.TheVariants as refuse
use Rattle.session_service.specs.Outcomes.{IsRead}
use Rattle.std.proofs.lemmas.Int.{ints, to_z-of_z}
use Rattle.std.proofs.lemmas.Bool.{ne_eqb}
use Rattle.tars_model.specs.Ranges.{IsInt}
use Rattle.tars_model.specs.declared.value.Value.{Value}
use Rattle.tars_decode.specs.Reads.{is_zero}
use Rattle.rpc_packet.specs.declared.response.Response.{Response}
use Rattle.script_session.specs.declared.report.End.TheVariants.{Code}
use Rattle.script_session.specs.declared.session.Session.{Session}
use Rattle.run_course.specs.Planned.{reply_end, reply_values, body_end}
use Rattle.run_engine.proofs.reporting.reply_end_of.Goals as goal

-- a code as the machine keeps it
kept : (n : ℤ) → IsInt n → to_z w32 (of_z w32 n) ≡ n
kept (pos n) int = to_z-of_z w32 (pos n) (record { sfits = omega (arith, ints, int.1) })
kept (negsuc n) int = to_z-of_z w32 (negsuc n) (record { sfits = omega (arith, ints, int.0) })

not_zero : (n : ℤ) → IsInt n → (of_z w32 n ≡ 0 → ⊥) → is_zero n ≡ false
not_zero (pos n) int other = ne_eqb n 0 (λ e. other (ap (λ m. of_z w32 (pos m)) e))
not_zero (negsuc n) int other = refl

zero : (n : ℤ) → IsInt n → of_z w32 n ≡ 0 → is_zero n ≡ true
zero n int e = ap is_zero (sym (kept n int) ∙ ap (to_z w32) e)

other_is : (s : Session) (func node packet : ℕ) (r : Response) → IsInt r.ret → (of_z w32 r.ret ≡ 0 → ⊥) → Code node packet (to_z w32 (of_z w32 r.ret)) ≡ reply_end s func node packet r
unfolding reply_end
other_is s func node packet r int other = rw (not_zero r.ret int other) (ap (λ n. Code node packet n) (kept r.ret int))

-- what is read of the body is told
said_is : (s : Session) (func node packet : ℕ) (r : Response) (body : List ℕ) (read : Result (List Value) Refuse) → IsInt r.ret → of_z w32 r.ret ≡ 0 → body ≡ r.body
    → reply_values s func body ≡ read → body_end node packet read ≡ reply_end s func node packet r
unfolding reply_end
said_is s func node packet r body read int e same is = rw (zero r.ret int e) (ap (λ said. body_end node packet said) (sym is ∙ ap (λ b. reply_values s func b) same))

pub returns-then-response-ne0 : goal.returns-then-response-ne0
returns-then-response-ne0 c =
    other_is c.args.service.now c.args.func c.args.link c.args.packet c.args.response.now c.requires.fits.ret c.if-response-ne0.true

pub returns-in-Ok : goal.returns-in-Ok
returns-in-Ok c =
    said_is c.args.service.now c.args.func c.args.link c.args.packet c.args.response.now c.as_slice.result.now (Ok c.in-Ok.values) c.requires.fits.ret c.if-response-ne0.false c.as_slice.ensures
    c.in-Ok.ensures

-- a refusal that is not want of memory is told
refused_is : (why : Refuse) (said : Result (List Value) Refuse) → IsRead (Err why) said → (why ≡ refuse.Memory → ⊥) → said ≡ Err why
refused_is (refuse.Malformed fault) said read other = read
refused_is (refuse.Missing path) said read other = read
refused_is (refuse.Mismatch path why) said read other = read
refused_is refuse.Memory said read other = absurd (other refl)

pub returns-in-Err : goal.returns-in-Err
returns-in-Err c =
    IfOk-weaker c.undecoded.result _ _
    (λ end told. told.0
    ∙ said_is c.args.service.now c.args.func c.args.link c.args.packet c.args.response.now c.as_slice.result.now (Err c.in-Err.refuse) c.requires.fits.ret c.if-response-ne0.false c.as_slice.ensures
    (refused_is c.in-Err.refuse _ c.in-Err.ensures told.1))
    c.undecoded.ensures
