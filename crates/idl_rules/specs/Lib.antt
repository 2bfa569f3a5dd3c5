pub mod Conditions
pub mod Parts
pub mod Rules
pub mod JudgeSteps
pub mod SeenSteps
pub mod NamedSteps
pub mod PartSteps
