pub mod Faults
pub mod Items
pub mod Known
pub mod Literals
pub mod Structs
pub mod Types
pub mod KnownSteps
pub mod NumberSteps
