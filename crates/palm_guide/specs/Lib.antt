pub mod Choices
pub mod Once
pub mod Picks
