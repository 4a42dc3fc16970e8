pub mod Declaring
pub mod Keeping
pub mod Reading
