-- Lemmas that other crates cite.
pub mod Accepted
pub mod Before
pub mod Declared
pub mod Earlier
pub mod Filtered
pub mod Lengths
pub mod Links
pub mod Logged
pub mod Needed
pub mod Numbers
pub mod Reached
pub mod Readable
pub mod Saying
pub mod Stepped
