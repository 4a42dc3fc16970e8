-- Lemmas that other crates cite.
pub mod Accepted
pub mod Phrases
pub mod Unique
pub mod Using
