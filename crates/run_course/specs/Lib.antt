pub mod Merges
pub mod Nodes
pub mod Courses
pub mod Planned
pub mod Legal
pub mod LegalReports
pub mod OneNode
