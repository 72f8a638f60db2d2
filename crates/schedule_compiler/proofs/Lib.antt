mod Blaming
mod Made
mod Vectors
