-- Items one after the other: the loop, its turns, and the rooms that are left.
pub mod ItemLaws
pub mod LoopSteps
pub mod Loops
pub mod Rooms
pub mod TokenSteps
pub mod Turns
pub mod Until
