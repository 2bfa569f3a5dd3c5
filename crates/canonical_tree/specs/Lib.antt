pub mod Pieces
pub mod Says
