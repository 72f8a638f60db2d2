pub mod Agreeing
pub mod Mentions
