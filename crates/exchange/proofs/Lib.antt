-- The laws of `exchange`, file by file.
pub mod Stamps
pub mod Running
pub mod Closing
pub mod Stepping
pub mod Taking
pub mod Answering
pub mod Refusing
pub mod Tight
