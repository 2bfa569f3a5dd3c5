use Rattle.std.proofs.Common.{◌≤◌, length, arith}
use Rattle.tars_base.specs.Contents.{HoldsOnly}
use Rattle.tars_base.specs.Limits.{MAX_FILE}
use Rattle.idl_load.specs.FileText.{IsText, bad, tree, too_long, file}
use Rattle.idl_load.specs.LoadSteps.{lex_refused, parse_refused}
use Rattle.idl_load.specs.declared.file_fault.FileFault.TheVariants.{TooLong}
use Rattle.idl_load.proofs.Texts.{is_one, lex_error, parse_error, by_error}
use Rattle.idl_load.proofs.reading.read_tree.Goals as goal

pub returns-then-text-gt-MAX_FILE-clause-text : goal.returns-then-text-gt-MAX_FILE-clause-text
returns-then-text-gt-MAX_FILE-clause-text c = is_one c.args.text.now (bad TooLong) (too_long (omega (arith, c.if-text-gt-MAX_FILE.true)))

pub returns-in_err-tokens-clause-text : goal.returns-in_err-tokens-clause-text
returns-in_err-tokens-clause-text c =
    let within : length c.args.text.now ≤ MAX_FILE = omega (arith, c.if-text-gt-MAX_FILE.false) in
    by_error (HoldsOnly (IsText c.args.text.now)) c.from_residual.result (lex_refused c.in_err-tokens.field-0.0) c.from_residual.ensures
    (lex_error c.args.text.now c.in_err-tokens.field-0.0 within c.in_err-tokens.ensures.fault)

pub returns-in_err-ast-clause-text : goal.returns-in_err-ast-clause-text
returns-in_err-ast-clause-text c =
    let within : length c.args.text.now ≤ MAX_FILE = omega (arith, c.if-text-gt-MAX_FILE.false) in
    by_error (HoldsOnly (IsText c.args.text.now)) c.from_residual-in_err-ast.result (parse_refused c.in_err-ast.field-0.0) c.from_residual-in_err-ast.ensures
    (parse_error c.args.text.now c.as_slice.result.now c.in_err-ast.field-0.0 within (rw c.as_slice.ensures c.in_ok-tokens.ensures.tokens) c.in_err-ast.ensures.fault)

pub returns-clause-text : goal.returns-clause-text
returns-clause-text c =
    let within : length c.args.text.now ≤ MAX_FILE = omega (arith, c.if-text-gt-MAX_FILE.false) in
    is_one c.args.text.now (tree c.in_ok-ast.ast.entries)
    (file c.as_slice.result.now c.in_ok-ast.ast.entries within (rw c.as_slice.ensures c.in_ok-tokens.ensures.tokens) c.in_ok-ast.ensures.read)
