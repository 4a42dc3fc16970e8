-- Lemmas that other crates cite.
pub mod Alone
pub mod Ending
pub mod Existing
pub mod Long
