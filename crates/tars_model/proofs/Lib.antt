pub mod Ints
pub mod ToldLaws
pub mod CallerLemmas
