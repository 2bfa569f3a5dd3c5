use Rattle.value_text.proofs.Readings.{one_reading}
use Rattle.value_text.proofs.reading.one_value.Goals as goal

pub returns : goal.returns
returns c = λ d t text r s v w one two. one_reading d t text v w r s one two
