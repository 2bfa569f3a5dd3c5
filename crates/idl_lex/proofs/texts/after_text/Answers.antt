use Rattle.std.proofs.Common.{ℕ, [], ◌∷◌, ◌++◌, List, length, sym, ap, ◌∙◌, subst, arith}
use Rattle.idl_lex.specs.Texts.{UnitsSpell}
use Rattle.idl_lex.specs.Texts.UnitsSpell.{none}
use Rattle.idl_lex.specs.Tokens.IsFault.{bad_escape, open_text}
use Rattle.idl_lex.proofs.Lexing.Strings.TextLaws.{unit_is, quote_is, cut_is, spoilt_is, units_last, unit_shorter, quote_prefix}
use Rattle.idl_lex.proofs.texts.after_text.Goals as goal

pub after_first-left-requires : goal.after_first-left-requires
after_first-left-requires c = omega (arith, ap length (quote_prefix c.args.bytes.now c.requires))

pub units-init : goal.units-init
units-init c =
    ([], c.after_first-left.result.now, quote_prefix c.args.bytes.now c.requires ∙ ap (λ (t : List ℕ). 34 ∷ t) (sym c.after_first-left.ensures), none)

pub units-smaller : goal.units-smaller
units-smaller c = unit_shorter (unit_is c.units.left.now c.in-Ok.rest.now c.in-Ok.ensures).1

pub units-preserved : goal.units-preserved
units-preserved c =
    let so_far = c.units.invariant in
    let unit = unit_is c.units.left.now c.in-Ok.rest.now c.in-Ok.ensures in
    (so_far.0 ++ unit.0 ∷ [], so_far.1, so_far.2, units_last so_far.3 unit.1)

pub after_first-requires : goal.after_first-requires
after_first-requires c =
    let quote = quote_is c.units.left.now (rw c.in-Err-Quote.field-0-is at c.in-Err-Quote.ensures) in
    omega (arith, ap length quote)

pub returns-in-Err-Quote-clause-text : goal.returns-in-Err-Quote-clause-text
returns-in-Err-Quote-clause-text c =
    let so_far = c.units.invariant in
    let quote = quote_is c.units.left.now (rw c.in-Err-Quote.field-0-is at c.in-Err-Quote.ensures) in
    (so_far.0, (so_far.1, so_far.2, subst (UnitsSpell so_far.0 so_far.1) (quote ∙ ap (λ (t : List ℕ). 34 ∷ t) (sym c.after_first.ensures)) so_far.3))

pub returns-in-Err-Cut-clause-fault : goal.returns-in-Err-Cut-clause-fault
returns-in-Err-Cut-clause-fault c =
    let so_far = c.units.invariant in
    open_text so_far.2 so_far.3 (cut_is c.units.left.now (rw c.in-Err-Cut.field-0-is at c.in-Err-Cut.ensures))

pub returns-in-Err-Spoilt-clause-fault : goal.returns-in-Err-Spoilt-clause-fault
returns-in-Err-Spoilt-clause-fault c =
    let so_far = c.units.invariant in
    bad_escape so_far.2 so_far.3 (spoilt_is c.units.left.now (rw c.in-Err-Spoilt.field-0-is at c.in-Err-Spoilt.ensures))
