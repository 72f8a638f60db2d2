pub mod Entries
pub mod Facts
pub mod Configuration
pub mod Sameness
pub mod Sets
pub mod Tables
pub use Rattle.mux_eep.specs.Sizes
