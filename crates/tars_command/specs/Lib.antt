pub mod Messages
pub mod Due
pub mod Runs
pub mod RunSteps
