-- The definitions of `bench`, file by file.
pub mod Outcomes
pub mod Lengths
pub mod Words
