pub mod Tree
pub mod Spelling
