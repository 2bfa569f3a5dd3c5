pub mod Declarations
pub mod Ranges
pub mod Members
pub mod Names
pub mod Schemas
pub mod Types
pub mod Values
