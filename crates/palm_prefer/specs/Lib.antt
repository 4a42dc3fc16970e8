pub mod Laws
pub mod Preferred
pub mod Softs
pub mod Walked
