pub mod Along
pub mod Reasons
pub mod Scoped
