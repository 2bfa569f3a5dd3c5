-- Rules that are broken: where one is, reading stops, and where it stops for a rule, that one is broken.
pub mod Reached
pub mod NoRules
pub mod Stopped
pub mod Verdicts
pub mod Wholes
