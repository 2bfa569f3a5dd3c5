-- What is spelled is read: by the pieces of a field, by numbers in their kinds, and by all of a tree.
pub mod Pieces
pub mod Shortest
pub mod Numbers
pub mod Fields
