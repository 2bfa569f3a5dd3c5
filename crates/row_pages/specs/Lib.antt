pub mod Pages
pub mod RowWords
