use Rattle.idl_load.proofs.Readings.{some_reading}
use Rattle.idl_load.proofs.Texts.{one_text}
use Rattle.idl_load.proofs.loading.one_reading.Goals as goal

pub returns-clause-some : goal.returns-clause-some
returns-clause-some c contents = some_reading contents

pub returns-clause-only : goal.returns-clause-only
returns-clause-only c bytes a b is other = one_text bytes a b is other
