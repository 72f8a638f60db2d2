pub mod Alike
pub mod Denoting
pub mod Parsing
pub mod Printing
pub mod Readers
pub mod Sources
pub mod Spelled
pub mod Tree
