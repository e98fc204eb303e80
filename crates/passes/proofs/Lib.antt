-- What the proofs of several functions use.
mod Closings
mod Holding
mod Playing
mod Eating
pub mod Printing
pub mod Tight
