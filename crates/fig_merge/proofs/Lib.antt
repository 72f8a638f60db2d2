pub mod Carrying
pub mod Passing
pub mod Ledger
pub mod Carried
pub mod Alike
pub mod Checked
pub mod Heard
pub mod Hearing
pub mod Vectors
mod Words
