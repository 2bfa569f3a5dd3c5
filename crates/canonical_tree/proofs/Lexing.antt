-- The canonical text lexes to the tokens of its pieces.
pub mod Lexemes
pub mod Ends
pub mod Parts
pub mod Lines
pub mod Spelling
pub mod DeclSpelling
pub mod Blocks
