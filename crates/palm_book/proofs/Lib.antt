pub mod cited
pub mod NameLemmas
pub mod NumberLemmas
