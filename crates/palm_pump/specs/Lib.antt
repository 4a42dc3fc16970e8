pub mod Collected
pub mod Pumping
pub mod Streams
pub mod Taking
