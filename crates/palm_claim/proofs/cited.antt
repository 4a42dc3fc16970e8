-- Lemmas that other crates cite.
pub mod Asked
pub mod Causes
pub mod Explained
pub mod Judged
pub mod JudgedLines
pub mod Listing
pub mod Passing
pub mod Phrases
pub mod ProvedSteps
pub mod Saying
pub mod Unique
