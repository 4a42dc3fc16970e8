pub mod Calling
pub mod cited
pub mod FlatConflict
pub mod Undone
