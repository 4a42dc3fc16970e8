pub mod Built
pub mod cited
pub mod Declaring
pub mod Marks
pub mod Moving
pub mod Proving
pub mod Renumbering
