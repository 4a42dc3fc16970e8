pub mod Differing
pub mod Heeds
pub mod Rules
pub mod Shapes
