-- The definitions of `programmer`, file by file.
pub mod Wishes
pub mod Steps
pub mod Promises
pub mod Reading
pub mod Running
