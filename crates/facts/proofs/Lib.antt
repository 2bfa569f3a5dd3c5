pub mod OptionLaws
pub mod ResultLaws
