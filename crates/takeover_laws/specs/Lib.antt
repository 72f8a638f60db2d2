pub mod Moved
pub mod TakingOver
