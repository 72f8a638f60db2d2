pub mod Headers
pub mod Lasts
pub mod Stretches
pub mod Flagged
mod Vectors
mod Words
