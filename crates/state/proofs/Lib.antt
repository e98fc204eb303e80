-- What the proofs of several functions use, and the laws that callers cite.
pub mod Places
pub mod States
mod Turns
pub mod Answering
pub mod Ways
pub mod Same
