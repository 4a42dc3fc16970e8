pub mod cited
pub mod Excluding
pub mod Grounds
pub mod Known
pub mod Steps
