pub mod Written
pub mod Spellings
pub mod Rooms
