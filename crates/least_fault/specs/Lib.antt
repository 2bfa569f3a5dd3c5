pub mod Conditions
pub mod Least
