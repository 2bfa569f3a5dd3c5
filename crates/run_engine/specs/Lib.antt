pub mod Claims
pub mod Notes
pub mod OneLines
pub mod Served
pub mod Tracks
