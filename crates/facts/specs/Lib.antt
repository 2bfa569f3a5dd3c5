pub mod OptionSteps
pub mod ResultSteps
