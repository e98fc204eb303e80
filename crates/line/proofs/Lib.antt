-- What the proofs of several functions use, and the laws that callers cite.
mod Product
pub mod Kept
pub mod Judging
pub mod Tight
mod Powers
