-- What follows a value: it is one rest for each text, and another may stand in its place.
pub mod Shapes
pub mod OneRest
pub mod Runs
pub mod Moved
pub mod Moves
pub mod Bounds
pub mod Fills
