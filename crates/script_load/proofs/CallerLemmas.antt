-- For the crates above: loading a script gives one answer, and what that is was returned for what was held.
pub use Rattle.script_load.proofs.WhatLoads.{ForScript}
pub use Rattle.script_load.proofs.OneLoading.{one_answer}
