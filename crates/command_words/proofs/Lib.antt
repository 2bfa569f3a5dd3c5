pub mod ShapeLaws
pub mod WalkLaws
pub mod SlotLaws
pub mod FormLaws
pub mod StructWords
pub mod CommandLaws
pub mod WordLaws
pub mod CallerLemmas
