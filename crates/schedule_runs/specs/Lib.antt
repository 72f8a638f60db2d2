pub mod Due
pub mod Machine
pub mod Kept
