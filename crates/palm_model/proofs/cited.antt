-- Lemmas that other crates cite.
pub mod Ascending
pub mod Assignments
pub mod Closing
pub mod Formed
pub mod Narrowing
pub mod Reasons
pub mod Standing
pub mod Sums
pub mod Supports
pub mod Trials
pub mod Without
