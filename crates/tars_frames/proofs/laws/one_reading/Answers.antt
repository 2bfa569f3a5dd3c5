use Rattle.tars_frames.proofs.Readings.{the_reading, same_reading, carried_on}
use Rattle.tars_frames.proofs.laws.one_reading.Goals as goal

pub returns-clause-some : goal.returns-clause-some
returns-clause-some c = the_reading

pub returns-clause-one : goal.returns-clause-one
returns-clause-one c = λ most stream rest other_rest packets others. same_reading most packets others stream rest other_rest

pub returns-clause-packets_carried_on : goal.returns-clause-packets_carried_on
returns-clause-packets_carried_on c = λ most stream more. (carried_on most stream more).0

pub returns-clause-rest_carried_on : goal.returns-clause-rest_carried_on
returns-clause-rest_carried_on c = λ most stream more. (carried_on most stream more).1
