pub mod EnumeratorLaws
pub mod JudgedLaws
pub mod LoopLaws
pub mod MemberLaws
pub mod SeenLaws
pub mod SpanLaws
pub mod WalkLaws
