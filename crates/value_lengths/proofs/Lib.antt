pub mod Numbers
pub mod Entries
pub mod Values
pub mod Calls
pub mod CallerLemmas
