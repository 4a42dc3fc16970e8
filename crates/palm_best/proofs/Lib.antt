pub mod Bounding
pub mod cited
pub mod Cutting
pub mod Looping
pub mod Moving
pub mod Owned
pub mod Reaching
pub mod Stopping
