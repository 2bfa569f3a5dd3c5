pub mod Servants
