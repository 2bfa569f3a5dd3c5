-- A cursor stands where the bytes spell what is left.
pub mod Prefixes
pub mod OneReading
pub mod OneField
pub mod Turns
pub mod Entering
pub mod Calls
pub mod Leaving
