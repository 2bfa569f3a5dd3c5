pub mod Shortest
pub mod Sizes
pub mod Layers
pub mod Fitting
pub mod Pieces
pub mod Adding
pub mod ReadBack
pub mod CallerLemmas
