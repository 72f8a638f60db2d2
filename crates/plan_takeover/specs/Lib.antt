pub mod Refusals
pub mod Takeover
