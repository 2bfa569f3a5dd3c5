-- Where and why reading stops.
pub mod FaultLaws
pub mod OneFault
pub mod ParseSteps
