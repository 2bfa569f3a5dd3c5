pub mod Args
pub mod Outcomes
