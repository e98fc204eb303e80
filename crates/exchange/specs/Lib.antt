-- The definitions of `exchange`, file by file.
pub mod Calls
pub mod Passing
pub mod Words
