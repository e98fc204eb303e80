-- The definitions of `fields`, file by file.
pub mod Memory
pub mod Replies
pub mod Found
pub mod Shape
