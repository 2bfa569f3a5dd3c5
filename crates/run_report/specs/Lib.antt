pub mod EndText
pub mod ReportText
pub mod CallNumbers
pub mod Views
