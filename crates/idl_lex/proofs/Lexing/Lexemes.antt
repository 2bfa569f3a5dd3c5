-- White space, comments and tokens, one after the other, and the faults between them.
pub mod Dominating
pub mod LexFaultLaws
pub mod LexemeLaws
pub mod ListLaws
pub mod SpanLaws
pub mod TokenLaws
pub mod TotalLaws
pub mod TriviaLaws
