-- The parser: readers against the grammar, and where they stop.
pub mod Combining
pub mod Deriving
pub mod Repeating
pub mod Stopping
