use Rattle.std.proofs.Common.{rules}
use Rattle.tars_frames.specs.Streams.{LONGEST}
use Rattle.tars_frames.proofs.Histories.{step_refused, step_taken}
use Rattle.tars_frames.proofs.frames.Frames.step.Goals as goal

pub returns-in_err-judge : goal.returns-in_err-judge
returns-in_err-judge c = step_refused LONGEST c.args.piece.now c.args.self.now c.in_err-judge.field-0.0 c.from_residual.result (search rules) c.in_err-judge.ensures

pub returns : goal.returns
returns c =
    step_taken LONGEST c.args.piece.now c.args.self.now c.take_in.new.self c.judge-2.result c.in_ok-judge.ensures c.in_ok-take_in.ensures c.judge-2.ensures
