pub mod Division
pub mod Linear
pub mod TableRule
pub mod U16
pub mod Uniqueness
pub mod Lengths
pub mod Finished
pub mod Determined
pub mod Sent
pub mod Frames
pub mod Layouts
pub mod Begun
pub mod Spelled
pub mod Vectors
mod Words
