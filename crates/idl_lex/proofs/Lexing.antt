-- The lexer: lexemes, tokens, texts and their faults.
pub mod Lexemes
pub mod Numbers
pub mod Strings
pub mod Words
