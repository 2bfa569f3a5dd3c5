-- For the crates above: a text spells bytes or has a fault, and not more than one of either; and what bytes it spells.
pub use Rattle.hex_text.proofs.Readings.{one_spelling}
pub use Rattle.hex_text.proofs.Prefixes.{one_fault, some_outcome}
pub use Rattle.hex_text.proofs.Spellings.{octets, half_as_long}
