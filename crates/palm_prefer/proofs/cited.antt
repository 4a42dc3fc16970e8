-- Lemmas that other crates cite.
pub mod Existing
pub mod Keeping
pub mod Uniqueness
pub mod Users
