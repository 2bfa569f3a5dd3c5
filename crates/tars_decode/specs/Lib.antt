pub mod Reads
pub mod Decoding
pub mod ReadingSteps
