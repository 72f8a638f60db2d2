pub mod Beginning
pub mod Going
pub mod Growing
pub mod Lines
pub mod Living
pub mod OneFile
pub mod Streaming
