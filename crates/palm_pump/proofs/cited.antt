-- Lemmas that other crates cite.
pub mod AtOnce
pub mod Mapped
pub mod TakenBytes
