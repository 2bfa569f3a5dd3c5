use Rattle.run_engine.proofs.Channels.{fed_on, fed_is, good_stream}
use Rattle.std.proofs.Common.{sym, ap, ◌∙◌}
use Rattle.tars_frames.specs.Streams.{LONGEST}
use Rattle.tars_frames.specs.Cutting.{is_refused}
use Rattle.tars_frames.proofs.CallerLemmas.{bad_refused}
use Rattle.run_engine.proofs.channel.feed.Goals as goal

pub returns-in-Ok-clause-kept : goal.returns-in-Ok-clause-kept
returns-in-Ok-clause-kept c = λ stream given at good. fed_on stream c.args.piece.now given _ good (c.in-Ok.ensures.kept stream given at)

pub returns-in-Ok-clause-refused : goal.returns-in-Ok-clause-refused
returns-in-Ok-clause-refused c = λ stream given at good.
    sym (ap (λ bytes. is_refused LONGEST bytes) (sym (fed_is stream c.args.piece.now good)) ∙ good_stream _ (c.in-Ok.ensures.told stream given at))

pub returns-in-Err-BadLength-clause-kept : goal.returns-in-Err-BadLength-clause-kept
returns-in-Err-BadLength-clause-kept c = λ stream given at good.
    let kept = rw c.in-Err-BadLength.field-0-is at c.in-Err-BadLength.ensures.kept stream given at in
    fed_on stream c.args.piece.now given _ good kept

pub returns-in-Err-BadLength-clause-refused : goal.returns-in-Err-BadLength-clause-refused
returns-in-Err-BadLength-clause-refused c = λ stream given at good.
    let told = rw c.in-Err-BadLength.field-0-is at c.in-Err-BadLength.ensures.told stream given at in
    sym (ap (λ bytes. is_refused LONGEST bytes) (sym (fed_is stream c.args.piece.now good)) ∙ bad_refused LONGEST _ _ _ told.2)
