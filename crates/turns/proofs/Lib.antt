-- What the proofs of several functions use, and the laws that callers cite.
pub mod Hearing
pub mod Beginning
pub mod Turning
pub mod Tight
