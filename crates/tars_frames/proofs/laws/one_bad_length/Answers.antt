use Rattle.std.proofs.Common.{length}
use Rattle.tars_frames.specs.Streams.{first_length, joined}
use Rattle.tars_frames.specs.Cutting.{packets_of, rest_of}
use Rattle.tars_frames.proofs.BadLengths.{refused_bad, bad_refused, one_bad, bad_stays}
use Rattle.tars_frames.proofs.laws.one_bad_length.Goals as goal

pub returns-clause-found : goal.returns-clause-found
returns-clause-found c = λ most stream refused.
    (length (joined (packets_of most stream)), first_length (rest_of most stream), refused_bad most stream refused)

pub returns-clause-only : goal.returns-clause-only
returns-clause-only c = bad_refused

pub returns-clause-one : goal.returns-clause-one
returns-clause-one c = one_bad

pub returns-clause-stays : goal.returns-clause-stays
returns-clause-stays c = bad_stays
