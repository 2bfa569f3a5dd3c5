-- What standard error tells of a run.
use Rattle.std.specs.Prelude.{ℕ, List, Option, Some, codes}
use Rattle.tars_base.specs.Status.{message_of}
use Rattle.tars_base.specs.declared.status.Status.{Status}
use Rattle.tars_base.specs.declared.status.Status.TheVariants.{Usage}

-- the line at the end of a run, without its end
abbrev pub error_line_of : Status → Option (List ℕ)
error_line_of Usage = Some (codes "usage: check encode decode compat plan made drill serve call")
error_line_of status = message_of status
