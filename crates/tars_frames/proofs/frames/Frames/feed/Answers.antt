use Rattle.tars_frames.specs.Streams.{LONGEST}
use Rattle.tars_frames.proofs.Histories.{step_kept, step_told}
use Rattle.tars_frames.proofs.frames.Frames.feed.Goals as goal

pub returns-clause-kept : goal.returns-clause-kept
returns-clause-kept c = step_kept LONGEST c.args.piece.now c.args.self.now c.step.new.self c.step.result c.step.ensures

pub returns-clause-told : goal.returns-clause-told
returns-clause-told c = step_told LONGEST c.args.piece.now c.args.self.now c.step.new.self c.step.result c.step.ensures
