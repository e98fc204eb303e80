-- The laws of `handheld`, file by file.
pub mod Taking
pub mod Numbers
pub mod Hosting
pub mod Worked
