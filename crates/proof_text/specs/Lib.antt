pub mod Draft
pub mod Reader
pub mod Sound
pub mod Statement
pub mod Users
pub mod Verdict
