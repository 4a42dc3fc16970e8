pub mod Accepted
pub mod Lemma
pub mod SoFar
pub mod Text
