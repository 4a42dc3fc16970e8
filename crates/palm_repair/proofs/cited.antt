-- Lemmas that other crates cite.
pub mod Alone
pub mod Counting
pub mod Ending
pub mod Existing
