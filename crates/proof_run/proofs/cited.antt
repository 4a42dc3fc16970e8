-- Lemmas that other crates cite.
pub mod Accepting
pub mod GoingOn
pub mod Same
