-- The definitions of `shop`, file by file.
pub mod Promises
pub mod Passages
pub mod Exchanges
