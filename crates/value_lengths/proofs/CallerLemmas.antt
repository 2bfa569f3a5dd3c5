-- For the crates above: values, arguments and calls that a text says are short.
pub use Rattle.value_lengths.proofs.Values.{value_short}
pub use Rattle.value_lengths.proofs.Calls.{arguments_short, said_packet}
