-- What the proofs of several functions use, and the theorems of the entry points.
mod Leaving
mod Refusing
mod Closing
mod Noting
mod Wholes
mod Admitting
mod Numbers
mod Serving
mod Heads
mod Starting
mod Resting
mod Judging
pub mod Lengths
pub mod Tight
pub mod Theorems
pub mod Staying
pub mod Running
mod Keeping
pub mod Lasting
pub mod Sleeping
pub mod Examples
