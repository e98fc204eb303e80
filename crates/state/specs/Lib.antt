-- The definitions of `state`, file by file.
pub mod Queue
pub mod State
pub mod Effects
pub mod Rows
