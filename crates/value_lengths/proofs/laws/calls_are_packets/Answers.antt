use Rattle.value_lengths.proofs.Calls.{arguments_short, said_packet}
use Rattle.value_lengths.proofs.Values.{value_short}
use Rattle.value_lengths.proofs.laws.calls_are_packets.Goals as goal

pub returns-clause-value : goal.returns-clause-value
returns-clause-value c = λ tag d t v text rest says. value_short tag says

pub returns-clause-arguments : goal.returns-clause-arguments
returns-clause-arguments c = arguments_short

pub returns-clause-packet : goal.returns-clause-packet
returns-clause-packet c = said_packet
