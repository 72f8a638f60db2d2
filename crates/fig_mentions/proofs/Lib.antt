pub mod Rests
pub mod Whole
mod Vectors
