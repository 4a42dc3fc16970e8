pub mod cited
pub mod Tries
