-- The definitions of `passes`, file by file.
pub mod Holding
pub mod Beginnings
pub mod Sessions
pub mod Runs
