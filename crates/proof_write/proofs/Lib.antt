pub mod Fitting
pub mod Holding
pub mod Lemmas
pub mod Listing
pub mod Numbering
pub mod Running
