pub mod AnswerSteps
pub mod Answers
pub mod Functions
pub mod Rules
pub mod Servants
pub mod Tables
