-- The laws of `tape`, file by file.
pub mod Outputs
pub mod Decimal
pub mod Events
pub mod Windows
pub mod Texts
pub mod Streams
pub mod Worked
pub mod Tight
