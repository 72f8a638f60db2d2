mod Words
pub mod DecidingFlows
pub mod Finding
pub mod Leaving
pub mod Moving
pub mod Samples
mod VectorsOfIndices
pub mod Answering
pub mod Causes
pub mod Entries
pub mod OneVerdict
pub mod Stepping
pub mod Tabled
pub mod Verdicts
mod Vectors
mod VectorsOfTyping
mod VectorsOfRefusals
