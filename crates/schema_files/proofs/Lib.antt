pub mod Held
pub mod OneFile
pub mod FileReading
pub mod OneSchema
pub mod SchemaLoading
pub mod CallerLemmas
