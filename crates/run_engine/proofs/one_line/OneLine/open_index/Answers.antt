use Rattle.std.proofs.Common.{◌≡◌, ◌≤◌, ◌-◌, ℕ, zero, suc, sym, subst, true, false, Some, None, Option, arith, refl, length}
use Rattle.std.specs.Prelude.{slice_get, is_some, is_none}
use Rattle.run_engine.specs.declared.fate.Fate.{Fate}
use Rattle.run_engine.proofs.Lists.{found_at}
use Rattle.run_engine.proofs.OneLines.{none_open, none_there, ended_there}
use Rattle.run_engine.proofs.one_line.OneLine.open_index.Goals as goal

nothing : (id : ℕ) → (1 ≤ id → ⊥) → id ≡ 0
nothing zero h = refl
nothing (suc id) h = absurd (h (omega arith))

placed : (id k : ℕ) → 1 ≤ id → k ≡ id - 1 → id ≡ suc k
placed id k h e = omega arith

not_none : (fate : Option Fate) → is_some fate ≡ true → is_none fate ≡ false
not_none None e = sym e
not_none (Some fate) e = refl

none_is : (fate : Option Fate) → is_some fate ≡ false → fate ≡ None
none_is None e = refl
none_is (Some fate) e = absurd (cc)

pub returns-in_err-index : goal.returns-in_err-index
returns-in_err-index c = rw c.from_residual.ensures (none_open c.args.id c.args.self.now.calls.items (nothing c.args.id c.in_err-index.ensures))

pub returns-in_err-call : goal.returns-in_err-call
returns-in_err-call c = rw c.from_residual-in_err-call.ensures
    (none_there c.args.id c.in_ok-index.index c.args.self.now.calls.items (placed c.args.id c.in_ok-index.index c.in_ok-index.ensures.0 c.in_ok-index.ensures.1)
    (subst (λ calls. length calls ≤ c.in_ok-index.index) c.deref.ensures.value c.in_err-call.ensures.lookup.3))

pub returns-then-is_some : goal.returns-then-is_some
returns-then-is_some c =
    let g = c.in_ok-call.ensures.lookup in
    ended_there c.args.id c.in_ok-index.index c.args.self.now.calls.items c.in_ok-call.call.now (placed c.args.id c.in_ok-index.index c.in_ok-index.ensures.0 c.in_ok-index.ensures.1)
    (subst (λ calls. slice_get calls c.in_ok-index.index ≡ Some c.in_ok-call.call.now) c.deref.ensures.value (found_at c.deref.result.now c.in_ok-index.index c.in_ok-call.call.now g.3.0 g.1))
    (not_none c.in_ok-call.call.now.fate (sym c.if-is_some.ensures))

pub returns : goal.returns
returns c =
    let g = c.in_ok-call.ensures.lookup in
    record {
      id_is = placed c.args.id c.in_ok-index.index c.in_ok-index.ensures.0 c.in_ok-index.ensures.1;
      call = c.in_ok-call.call.now;
      call_is = subst (λ calls. slice_get calls c.in_ok-index.index ≡ Some c.in_ok-call.call.now) c.deref.ensures.value (found_at c.deref.result.now c.in_ok-index.index c.in_ok-call.call.now g.3.0 g.1);
      is_open = none_is c.in_ok-call.call.now.fate (sym c.if-is_some.ensures);
    }
