pub mod Texts
pub mod Readings
pub mod Seeing
pub mod Steps
pub mod Bounds
