pub mod Words
pub mod Asked
pub mod WordSteps
pub mod FormSteps
