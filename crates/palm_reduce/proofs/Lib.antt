pub mod Asking
pub mod Cores
pub mod Filling
pub mod Keeping
pub mod Passing
pub mod Splitting
pub mod cited
