-- Lemmas that other crates cite.
pub mod Connecting
pub mod Keeping
pub mod Marking
