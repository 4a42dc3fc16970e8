-- Lemmas that other crates cite.
pub mod Agreeing
pub mod Conflicts
pub mod Logs
pub mod Names
pub mod Outcomes
pub mod Reasons
pub mod Runs
pub mod Scoped
pub mod States
pub mod Undone
pub mod Valid
