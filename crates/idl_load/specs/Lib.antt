pub mod FileText
pub mod Loading
pub mod LoadAnswers
pub mod LoadSteps
