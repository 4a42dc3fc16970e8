pub mod Print
pub mod Reply
pub mod Writer
pub mod Writing
