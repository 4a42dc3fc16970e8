-- Lemmas that other crates cite.
pub mod Asked
pub mod FeedLemmas
pub mod Keeping
pub mod LawsOfAnswers
pub mod LawsOfChanges
pub mod LawsOfStates
pub mod LawsOfTexts
pub mod LedLemmas
pub mod Pieces
pub mod ToldLines
