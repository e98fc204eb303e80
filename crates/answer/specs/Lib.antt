-- The definitions of `answer`.
pub mod Program
