-- Lemmas that other crates cite.
pub mod Existence
pub mod Growing
pub mod Reducing
pub mod Solutions
pub mod Uniqueness
