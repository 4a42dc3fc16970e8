pub mod cited
pub mod Indexed
pub mod Listing
pub mod Singles
pub mod Started
