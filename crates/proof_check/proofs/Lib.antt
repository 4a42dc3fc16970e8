pub mod Assuming
pub mod Grounds
pub mod Keeping
pub mod Marking
pub mod PairsNamed
pub mod Picking
pub mod UsersTold
