pub mod Fitting
pub mod Lines
pub mod Numbers
pub mod Proving
