use Rattle.std.proofs.Common.{length}
use Rattle.script_lines.specs.KeptSteps.{keep_lines, nothing_kept}
use Rattle.script_lines.specs.Lines.{text_lines}
use Rattle.script_lines.proofs.LineSplits.{KeepsOn}
use Rattle.script_lines.proofs.reading.read_lines.Given as goal

abbrev pub invariant-loop-rest : goal.invariant-loop-rest
invariant-loop-rest l = KeepsOn (length l.text) l.draft l.rest (keep_lines nothing_kept (text_lines l.text))

abbrev pub decreases-loop-rest : goal.decreases-loop-rest
decreases-loop-rest l = length l.rest
