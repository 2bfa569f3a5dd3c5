-- For the crates above: a text has one outcome, a line says one thing, and every script keeps the limits.
pub use Rattle.script_lines.proofs.FormLaws.{one_said}
pub use Rattle.script_lines.proofs.ReadLaws.{some_outcome, one_script, one_fault, not_both}
pub use Rattle.script_lines.proofs.LimitLaws.{keeps_limits}
