-- What the proofs of several functions use, and the laws that callers cite.
pub mod Bounding
pub mod Stepping
pub mod Sending
pub mod Endings
pub mod Dispatch
pub mod Quickening
pub mod Promises
