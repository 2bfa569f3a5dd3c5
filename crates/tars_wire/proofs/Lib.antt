pub mod TestLemmas
pub mod Grammar
pub mod Machine
pub mod Scanning
pub mod Walking
pub mod Writing
pub mod CallerLemmas
