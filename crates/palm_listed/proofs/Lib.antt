pub mod Keeping
pub mod Outside
pub mod Taking
