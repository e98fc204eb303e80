-- The definitions of `board`, file by file.
pub mod Board
pub mod Work
pub mod Quick
pub mod Promises
pub mod Words
