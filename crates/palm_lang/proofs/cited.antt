-- Lemmas that other crates cite.
pub mod Writes
pub mod Wrote
