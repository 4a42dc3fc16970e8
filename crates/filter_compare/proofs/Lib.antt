pub mod Comparisons
pub mod Ends
pub mod Heeds
pub mod Memberships
pub mod Rules
pub mod Shapes
