-- The definitions of `handheld`, file by file.
pub mod Numbers
pub mod Entries
