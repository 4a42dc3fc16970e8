-- Lemmas that other crates cite.
pub mod Listed
pub mod Righted
pub mod Written
