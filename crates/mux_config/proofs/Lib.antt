pub mod FieldLaws
pub mod PlacedFields
pub mod SteadyFields
pub mod Places
pub mod Rates
pub mod Sounding
pub mod FaultsTold
pub mod Overlaps
pub mod Distinguishing
pub mod PartLaws
pub mod ReadingLoops
pub mod RecordLaws
pub mod Steady
pub mod Keeping
pub mod FactSets
pub mod Same
mod EditVectors
mod Vectors
mod Words
