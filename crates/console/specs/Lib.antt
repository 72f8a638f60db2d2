pub mod Ending
pub mod LineBytes
pub mod Lines
pub mod Printed
pub mod Reading
pub mod Versions
pub mod World
