pub mod Lists
pub mod DeclFits
pub mod Deriving
pub mod Lexing
pub mod Canonical
