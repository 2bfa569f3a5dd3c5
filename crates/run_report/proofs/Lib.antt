pub mod CallTables
