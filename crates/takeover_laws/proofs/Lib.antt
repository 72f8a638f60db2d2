mod Words
pub mod Moving
pub mod Ranges
pub mod Leading
pub mod Handing
pub mod Arriving
mod Samples
mod VectorsOfTakingOver
