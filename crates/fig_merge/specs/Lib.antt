pub mod Taking
pub mod Filling
pub mod Steps
pub mod Stored
pub mod Passing
