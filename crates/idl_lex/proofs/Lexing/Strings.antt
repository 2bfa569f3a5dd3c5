-- Texts in quotes.
pub mod EscapeLaws
pub mod EscapeLengths
pub mod TextLaws
pub mod TextOutcomes
