pub mod Counting
pub mod CountSupport
pub mod Enough
pub mod Heeds
pub mod Reached
pub mod Shapes
pub mod Written
