pub mod Frame
pub mod Held
pub mod Merged
pub mod Merging
pub mod Stream
pub mod Success
