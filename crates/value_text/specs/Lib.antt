pub mod Printed
pub mod ValueWhy
pub mod Spelling
pub mod Faults
pub mod ReadSteps
pub mod ValueSteps
pub mod Answers
