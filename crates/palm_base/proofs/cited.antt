-- Lemmas that other crates cite.
pub mod CidOrder
pub mod FirstCauses
pub mod Members
pub mod Numerals
pub mod RisingLists
pub mod Sorted
pub mod StreamLemmas
pub mod Telling
