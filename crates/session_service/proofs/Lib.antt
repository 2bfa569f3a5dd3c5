pub mod Lists
pub mod Decoded
pub mod Functions
pub mod Rules
