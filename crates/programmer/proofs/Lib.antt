-- The laws of `programmer`, file by file.
pub mod Reading
pub mod Asking
pub mod Hearing
pub mod Counting
pub mod Whole
pub mod Replies
pub mod Leading
pub mod ReadBack
pub mod Allowed
pub mod Worked
pub mod Tight
