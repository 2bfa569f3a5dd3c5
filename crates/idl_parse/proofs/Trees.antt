-- What the grammar says of a tree: its spans, its nesting, its includes.
pub mod FileWalks
pub mod IncludeLaws
pub mod NestingLaws
pub mod TypeNesting
pub mod TypeWalks
pub mod Walks
