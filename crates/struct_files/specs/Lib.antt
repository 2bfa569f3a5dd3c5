pub mod Finding
pub mod Opening
pub mod Answers
pub mod Encoding
pub mod Decoding
pub mod Comparing
pub mod Steps
