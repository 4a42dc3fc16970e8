-- Lemmas that other crates cite.
pub mod Actives
pub mod Any
pub mod BookLemmas
pub mod Intervals
pub mod Naming
pub mod Pairs
pub mod Resolving
pub mod WellFormed
