pub mod Sessions
pub mod ReportWords
pub mod Judged
