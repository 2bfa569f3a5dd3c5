pub mod Parsing
pub mod Trees
pub mod CallerLemmas
