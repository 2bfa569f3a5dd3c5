pub mod Kept
pub mod Finding
pub mod Loaded
pub mod Interfaces
