-- What bytes spell: one thing at most, whatever follows.
pub mod Heads
pub mod Types
pub mod Unique
pub mod Extends
