pub mod Answers
pub mod Kept
pub mod Marked
pub mod Properties
pub mod Walked
