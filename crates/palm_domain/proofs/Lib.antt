pub mod cited
pub mod KeptValues
pub mod MarkPlaces
pub mod RowMarks
pub mod Runs
pub mod Standing
pub mod WordOnes
