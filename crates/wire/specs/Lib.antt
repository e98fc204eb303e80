-- The definitions of `wire`, file by file.
pub mod Table
pub mod Answers
pub mod Numbers
