pub mod Atoms
pub mod Braces
pub mod Digits
pub mod Ending
pub mod Keys
pub mod KindTable
mod Lexing
mod Numerals
pub mod Pieces
pub mod Scanning
pub mod Spans
mod Vectors
pub mod Wording
pub mod Taking
pub mod Combining
pub mod FirstFrames
pub mod FirstKeywords
mod Words
