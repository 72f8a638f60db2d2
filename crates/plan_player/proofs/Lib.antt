mod Words
pub mod Remaining
pub mod Keeping
pub mod FrameFacts
pub mod Delivering
pub mod Places
mod Vectors
mod VectorsOfBursts
mod VectorsOfPhases
mod VectorsOfQuiet
pub mod Joining
pub mod Quiet
mod CountedOn
mod Together
pub mod Stretches
mod VectorsOfStretches
mod CountTables
mod Recounting
mod Alike
mod Cycles
