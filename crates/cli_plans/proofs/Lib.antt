mod LiveInputs
pub mod Playbacks
mod VectorsOfSuccess
mod Words
