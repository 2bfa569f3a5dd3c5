pub mod SchemaOf
pub mod Agreement
pub mod Faultless
pub mod Reading
pub mod Lengths
pub mod Naming
