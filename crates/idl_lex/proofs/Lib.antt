pub mod Lexing
pub mod CallerLemmas
