-- Lemmas that other crates cite.
pub mod CountNumbers
pub mod CountReason
pub mod DifferReason
pub mod ElementReason
pub mod LinearReason
pub mod LinearTotals
pub mod Reasons
pub mod TableRows
pub mod TwoVariables
