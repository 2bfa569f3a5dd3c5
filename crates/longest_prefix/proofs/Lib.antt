pub mod Verdicts
pub mod Laxer
