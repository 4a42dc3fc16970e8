pub mod Beyond
pub mod Heeds
pub mod LinearReasons
pub mod LinearSupport
pub mod Shapes
pub mod Walks
