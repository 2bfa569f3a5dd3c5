-- Scanning is running the machine by all rules.
pub mod Readings
pub mod Remainders
pub mod Loops
pub mod Verdicts
