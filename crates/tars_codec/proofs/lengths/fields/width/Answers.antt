use Rattle.std.proofs.Common.{◌≡◌, Bool, true, false, Result, sym, ◌∙◌, refl}
use Rattle.std.specs.Result.{is_ok, OkIff}
use Rattle.std.proofs.lemmas.Result.{OkIff-decides}
use Rattle.tars_codec.proofs.Shortest.{shortest_zero, shortest_int1, shortest_int2, shortest_int4, shortest_int8}
use Rattle.tars_codec.proofs.lengths.fields.width.Goals as goal

-- what a test of a conversion says of the number
fits_there : {T E : Type 0} {P : Type 0} (r : Result T E) (v : T) {b : Bool} → b ≡ is_ok r → b ≡ true → OkIff r P v → P
fits_there {P = P} r v is there h = (OkIff-decides r P v h).0 (sym is ∙ there)

fits_nowhere : {T E : Type 0} {P : Type 0} (r : Result T E) (v : T) {b : Bool} → b ≡ is_ok r → b ≡ false → OkIff r P v → P → ⊥
fits_nowhere {P = P} r v is none h fits =
    let there : is_ok r ≡ true = (OkIff-decides r P v h).1 fits in cc

pub returns-then-number-eq0-clause-value : goal.returns-then-number-eq0-clause-value
returns-then-number-eq0-clause-value c = rw (shortest_zero c.args.number c.ranges.number c.if-number-eq0.true) refl

pub returns-then-is_ok-clause-value : goal.returns-then-is_ok-clause-value
returns-then-is_ok-clause-value c =
    rw (shortest_int1 c.args.number _ c.ranges.number c.if-number-eq0.false (fits_there _ _ c.is_ok.ensures.value c.if-is_ok.true c.try_from.ensures) refl) refl

pub returns-then-is_ok-2-clause-value : goal.returns-then-is_ok-2-clause-value
returns-then-is_ok-2-clause-value c =
    let past8 = fits_nowhere _ _ c.is_ok.ensures.value c.if-is_ok.false c.try_from.ensures in
    rw (shortest_int2 c.args.number _ c.ranges.number c.if-number-eq0.false past8 (fits_there _ _ c.is_ok-else-is_ok.ensures.value c.if-is_ok-2.true c.try_from-else-is_ok.ensures) refl) refl

pub returns-then-is_ok-3-clause-value : goal.returns-then-is_ok-3-clause-value
returns-then-is_ok-3-clause-value c =
    let past8 = fits_nowhere _ _ c.is_ok.ensures.value c.if-is_ok.false c.try_from.ensures in
    let past16 = fits_nowhere _ _ c.is_ok-else-is_ok.ensures.value c.if-is_ok-2.false c.try_from-else-is_ok.ensures in
    rw (shortest_int4 c.args.number _ c.ranges.number c.if-number-eq0.false past8 past16 (fits_there _ _ c.is_ok-else-is_ok-2.ensures.value c.if-is_ok-3.true c.try_from-else-is_ok-2.ensures) refl) refl

pub returns-else-is_ok-3-clause-value : goal.returns-else-is_ok-3-clause-value
returns-else-is_ok-3-clause-value c =
    let past8 = fits_nowhere _ _ c.is_ok.ensures.value c.if-is_ok.false c.try_from.ensures in
    let past16 = fits_nowhere _ _ c.is_ok-else-is_ok.ensures.value c.if-is_ok-2.false c.try_from-else-is_ok.ensures in
    let past32 = fits_nowhere _ _ c.is_ok-else-is_ok-2.ensures.value c.if-is_ok-3.false c.try_from-else-is_ok-2.ensures in
    rw (shortest_int8 c.args.number c.ranges.number c.if-number-eq0.false past8 past16 past32) refl
