pub mod Elements
pub mod Members
pub mod Moved
pub mod Powers
pub mod Tables
pub mod Walking
