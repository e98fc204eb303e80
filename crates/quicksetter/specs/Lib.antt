-- The definitions of `quicksetter`, file by file.
pub mod Calls
pub mod Cores
pub mod Verdicts
pub mod Promises
pub mod Lasting
pub mod Sleeping
