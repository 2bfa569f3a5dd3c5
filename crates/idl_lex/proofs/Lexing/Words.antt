-- Words, runs of bytes and signs.
pub mod CandidateLaws
pub mod RunLaws
pub mod WordLaws
