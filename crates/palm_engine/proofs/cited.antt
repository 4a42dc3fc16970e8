-- Lemmas that other crates cite.
pub mod Leading
pub mod Restored
pub mod Results
pub mod Settled
pub mod Walking
pub mod Withdrawing
