-- How a run of the program ends, as the system and a person see it.
use Rattle.std.specs.Prelude.{ℕ, List, Option, Some, None, codes}
use Rattle.tars_base.specs.declared.status.Status.{Status}
use Rattle.tars_base.specs.declared.status.Status.TheVariants.{Done, Refused, Usage, ReadFault, WriteFault, Memory, NetFault}

-- the exit status of the process
abbrev pub number_of : Status → ℕ
number_of Done = 0
number_of Refused = 1
number_of Usage = 2
number_of ReadFault = 3
number_of WriteFault = 4
number_of Memory = 5
number_of NetFault = 6

-- the line that tells of a fault, without its end
abbrev pub message_of : Status → Option (List ℕ)
message_of Done = None
message_of Refused = None
message_of Usage = None
message_of ReadFault = Some (codes "read fault")
message_of WriteFault = Some (codes "write fault")
message_of Memory = Some (codes "no memory")
message_of NetFault = Some (codes "net fault")
