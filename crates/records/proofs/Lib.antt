-- The laws of `records`, file by file.
pub mod Bytes
pub mod Windows
pub mod Tight
