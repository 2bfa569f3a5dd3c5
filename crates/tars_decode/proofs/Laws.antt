-- What is read of bytes is what is read of the tree that they spell.
pub mod Fields
pub mod Skipping
pub mod Joined
pub mod Steps
pub mod Entries
pub mod Members
pub mod Contents
