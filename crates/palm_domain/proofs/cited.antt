-- Lemmas that other crates cite.
pub mod Ascending
pub mod Comparisons
pub mod StoreRows
pub mod Values
