pub mod Status
pub mod Causes
pub mod Contents
pub mod Limits
pub mod Calls
pub mod MemFiles
pub mod MemSink
