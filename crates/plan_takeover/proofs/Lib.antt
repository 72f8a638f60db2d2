mod Costs
mod Programs
mod Refusing
mod Sequences
mod Takeovers
mod Vectors
