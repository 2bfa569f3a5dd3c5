-- What is read under a type is one of its values.
pub mod Numbers
pub mod Parts
pub mod Contents
