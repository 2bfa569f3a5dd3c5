use Rattle.std.proofs.Common.{get_or, refl}
use Rattle.std.proofs.lemmas.Result.{err_from_is_err_and}
use Rattle.value_text.specs.ReadSteps.{word_at}
use Rattle.value_text.proofs.Words.{word_goes_on, word_fails, word_ends}
use Rattle.value_text.proofs.cursor.Cursor.word.Goals as goal

pub returns-in_err-byte : goal.returns-in_err-byte
returns-in_err-byte c =
    let p = err_from_is_err_and c.from_residual.result c.from_residual.ensures.1 in
    rw (p.1, p.2) (word_fails c.args.word.now c.loop-wanted.wanted-index (get_or c.args.word.now c.loop-wanted.wanted-index 0) c.loop-wanted.self (word_at c.args.word.now c.args.self.now) c.loop-wanted-test.true refl c.in_err-byte.field-0.0 c.byte.new.self c.in_err-byte.ensures c.loop-wanted.invariant)

pub loop-wanted-preserved : goal.loop-wanted-preserved
loop-wanted-preserved c =
    word_goes_on c.args.word.now c.loop-wanted.wanted-index (get_or c.args.word.now c.loop-wanted.wanted-index 0) c.loop-wanted.self (word_at c.args.word.now c.args.self.now) c.loop-wanted-test.true refl c.byte.new.self c.in_ok-byte.ensures c.loop-wanted.invariant

pub returns : goal.returns
returns c = word_ends c.args.word.now c.loop-wanted.wanted-index c.loop-wanted.self (word_at c.args.word.now c.args.self.now) c.loop-wanted-test.false c.loop-wanted.invariant
