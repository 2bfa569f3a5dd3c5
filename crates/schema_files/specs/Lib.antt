pub mod Refusals
pub mod FileReading
pub mod SchemaLoading
pub mod LoadAnswers
pub mod LoadSteps
