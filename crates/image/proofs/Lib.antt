-- What the proofs of several functions use, and the laws that callers cite.
pub mod Numbers
pub mod Standing
mod Flags
pub mod Parts
pub mod Round
pub mod Placing
mod Going
pub mod Tight
