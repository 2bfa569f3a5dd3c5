-- Numbers and fractions.
pub mod DigitLaws
pub mod NumberLaws
pub mod NumberLengths
