mod Flags
mod Lists
mod FlawLaws
mod PrimaryLaws
mod BeginningLaws
mod BlockLaws
mod LateLaws
mod DayLaws
mod TrapLaws
mod StraightLaws
mod RepeatLaws
mod Known
mod Changed
mod WarningLaws
mod VectorsOfWarnings
mod VectorsOfDays
mod VectorsOfTraps
pub mod Vectors
pub mod VectorsOfFacts
