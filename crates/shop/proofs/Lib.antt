-- The laws of `shop`, file by file.
pub mod Laid
pub mod Answers
pub mod Kept
pub mod Programming
pub mod Calls
pub mod Worked
pub mod Exchanges
