-- The machine that reads bodies by any rules, and what it says of faults.
pub mod Meaning
pub mod FirstBytes
pub mod Counts
pub mod Forms
pub mod Contexts
pub mod Steps
pub mod Reasons
pub mod Faults
