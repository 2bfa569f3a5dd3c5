pub mod Comings
pub mod DueLaws
pub mod RunLaws
