pub mod Heeds
pub mod Index
pub mod Rules
pub mod Shapes
