use Rattle.std.proofs.Common.{◌≡◌, ◌<◌, ◌+◌, ◌^◌, ℕ, suc, List, length, ◌∙◌, ap, arith}
use Rattle.run_engine.specs.Claims.{Claim}
use Rattle.run_engine.specs.OneLines.{claims_from}
use Rattle.run_engine.specs.declared.one_line.Opened.{Opened}
use Rattle.run_engine.proofs.OneLines.{claims_length, line_opened}
use Rattle.run_engine.proofs.one_line.OneLineClaims.open_call.Goals as goal

few : (claims : List Claim) (calls : List Opened) (n : ℕ) → claims ≡ claims_from 1 calls → suc (length claims) < 2 ^ 31 → n ≡ length calls → n + 1 < 2 ^ 32
few claims calls n is short len = let same = ap length is ∙ claims_length 1 calls in omega (arith, same, short, len)

next : (claims : List Claim) (calls : List Opened) (n : ℕ) → claims ≡ claims_from 1 calls → n ≡ length calls → n + 1 ≡ suc (length claims)
next claims calls n is len = let same = ap length is ∙ claims_length 1 calls in omega (arith, same, len)

pub overflow_cast-id : goal.overflow_cast-id
overflow_cast-id c =
    let f = few c.requires.ids.0 c.args.self.now.calls.items c.len.result c.requires.ids.1.are c.requires.ids.2 (c.len.ensures ∙ c.args.self.now.calls.ok.0) in
    record { fits = omega (arith, f) }

pub overflow_add-id : goal.overflow_add-id
overflow_add-id c =
    let f = few c.requires.ids.0 c.args.self.now.calls.items c.len.result c.requires.ids.1.are c.requires.ids.2 (c.len.ensures ∙ c.args.self.now.calls.ok.0) in
    record { fits = f }

pub returns-clause-id : goal.returns-clause-id
returns-clause-id c = λ claims is. next claims c.args.self.now.calls.items c.len.result is.are (c.len.ensures ∙ c.args.self.now.calls.ok.0)

pub returns-clause-opened : goal.returns-clause-opened
returns-clause-opened c = λ claims is. line_opened claims c.args.self.now.calls.items _ c.args._line c.args.node c.args.deadline is c.in_ok-push.ensures.items c.requires.line
