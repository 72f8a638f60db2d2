mod Words
mod Small
mod Deciding
pub mod Playing
pub mod Following
pub mod Along
pub mod Keeping
pub mod Runs
mod Samples
mod VectorsOfMachine
mod VectorsOfRows
mod VectorsOfKept
