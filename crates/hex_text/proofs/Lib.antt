pub mod Parts
pub mod Readings
pub mod Prefixes
pub mod Spellings
pub mod Steps
pub mod CallerLemmas
