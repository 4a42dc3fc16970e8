pub mod cited
pub mod Known
