pub mod BadLengths
pub mod CallerLemmas
pub mod Cuts
pub mod Histories
pub mod Readings
