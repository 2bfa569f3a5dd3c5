-- For the crates above: that responses are short, what a servant is after calls, and that a schema and a table may go to another thread.
pub use Rattle.servant_core.proofs.Lengths.{answered_short, unseen_short}
pub use Rattle.servant_core.proofs.Meanings.{after_on, always_after}
pub use Rattle.servant_core.proofs.Sends.{schema_send, table_send}
