pub mod Agreement
pub mod AgreementSteps
pub mod Decoded
pub mod Projected
pub mod Reasons
