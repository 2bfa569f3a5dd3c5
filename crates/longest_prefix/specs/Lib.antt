pub mod Prefixes
pub mod Machine
