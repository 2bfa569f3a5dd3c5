pub mod HexText
pub mod Answers
pub mod HexSteps
