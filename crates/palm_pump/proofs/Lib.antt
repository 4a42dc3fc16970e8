pub mod OneRead
pub mod cited
