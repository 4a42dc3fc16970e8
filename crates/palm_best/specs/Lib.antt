pub mod Answers
pub mod Breaking
pub mod Cuts
pub mod Ends
pub mod Following
pub mod Improving
pub mod Moves
pub mod Stopping
