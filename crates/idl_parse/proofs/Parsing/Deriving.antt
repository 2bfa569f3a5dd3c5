-- The productions: literals, types, declarations, files.
pub mod FileLaws
pub mod FileSteps
pub mod Literals
pub mod Productions
pub mod TypeLaws
