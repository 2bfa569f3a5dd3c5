use Rattle.std.proofs.Common.{◌≡◌, ◌<◌, ℕ, zero, suc, List, [], ◌∷◌, ◌++◌, length, take, drop, map, refl, sym, ap, ◌∙◌, arith, add-one}
use Rattle.std.proofs.Math.ListN.{set, get_or}
use Rattle.run_engine.specs.OneLines.{closed_call}
use Rattle.run_engine.proofs.Lists.{same_head, same_tail}
use Rattle.run_engine.proofs.one_line.close_all.Goals as goal

-- one more element of a list is replaced by its image
one_more : {A : Type 0} (f : A → A) (init xs : List A) (i : ℕ) (x y : A) → i < length xs → xs ≡ map f (take i init) ++ drop i init
    → x ≡ get_or xs i x → y ≡ f x → set xs i y ≡ map f (take (suc i) init) ++ drop (suc i) init
one_more f init [] i x y h e here is = absurd (omega arith)
one_more f [] (z ∷ xs) zero x y h e here is = absurd (cc)
one_more f (w ∷ init) (z ∷ xs) zero x y h e here is =
    let head : z ≡ w = same_head e in
    rw (is, here, head, same_tail e) refl
one_more f [] (z ∷ xs) (suc i) x y h e here is = absurd (cc)
one_more f (w ∷ init) (z ∷ xs) (suc i) x y h e here is =
    let head : z ≡ f w = same_head e in
    rw (one_more f init xs i x y (omega arith) (same_tail e) here is, head) refl

pub loop-call-preserved : goal.loop-call-preserved
loop-call-preserved c =
    rw add-one
    (one_more closed_call c.deref_mut-call-items.result.now c.loop-call.call-items c.loop-call.call-index c.call-item.result c.close.new.self (omega (arith, c.loop-call-test.true, c.loop-call.auto.call-items))
    c.loop-call.invariant c.call-item.is (c.close.ensures ∙ ap closed_call (sym c.call-item.is)))
