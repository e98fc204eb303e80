-- The laws of `bench`, file by file.
pub mod Laws
pub mod Lengths
pub mod Requests
pub mod Tight
pub mod Verdicts
