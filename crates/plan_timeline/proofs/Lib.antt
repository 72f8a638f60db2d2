mod Words
pub mod Playing
mod Vectors
