-- The definitions of `turns`, file by file.
pub mod Hearing
pub mod Openings
pub mod Turns
