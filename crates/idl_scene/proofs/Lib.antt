pub mod FaultLaws
pub mod NameLaws
pub mod NumberLaws
pub mod TypeLaws
pub mod TypeSpans
pub mod WordLaws
