pub mod cited
pub mod PrintLemmas
