pub mod Ascending
pub mod Bits
pub mod FaultLaws
pub mod FileLaws
pub mod FormatLaws
pub mod HeaderLaws
pub mod LoopLaws
pub mod Loops
pub mod Meeting
pub mod OpcodeLaws
pub mod PartLaws
pub mod PlacedFiles
pub mod SteadyFiles
pub mod Vectors
mod VectorsOfAlternatives
pub mod Windows
mod Words
mod VectorsOfFormats
