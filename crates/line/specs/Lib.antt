-- The definitions of `line`, file by file.
pub mod Line
pub mod Judge
