pub mod Comparison
pub mod Within
