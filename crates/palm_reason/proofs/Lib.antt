pub mod cited
pub mod ComparisonReason
pub mod OneVariable
pub mod TableReason
