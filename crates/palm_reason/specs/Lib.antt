pub mod Count
pub mod Differ
