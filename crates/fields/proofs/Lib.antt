-- The laws of `fields`, file by file.
pub mod Walk
pub mod Tables
pub mod Gives
pub mod Pieces
pub mod Finds
pub mod Rows
pub mod Accesses
pub mod Over
pub mod Shapes
pub mod Tight
