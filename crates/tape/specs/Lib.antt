-- The definitions of `tape`, file by file.
pub mod Kinds
pub mod Text
pub mod Answers
pub mod Reader
pub mod Passes
