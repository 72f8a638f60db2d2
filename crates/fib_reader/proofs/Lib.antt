pub mod FaultSteps
pub mod Lengths
pub mod EntryLists
pub mod FigLists
pub mod EntryFaults
pub mod FigFaults
pub mod Places
pub mod Keeping
pub mod Forecast
pub mod Order
pub mod Components
pub mod FromEntries
pub mod Shown
pub mod Vectors
mod Remembered
mod Remembering
mod Words
