-- The definitions of `records`, file by file.
pub mod Records
pub mod Reader
