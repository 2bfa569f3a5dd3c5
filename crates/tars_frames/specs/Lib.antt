pub mod Cutting
pub mod Feeding
pub mod Streams
pub mod Waiting
