pub mod Making
pub mod Scenes
mod KeptAlternatives
pub mod Places
pub mod Following
pub mod Playing
mod Vectors
mod VectorsOfCodes
mod VectorsOfRefusals
mod Paths
pub mod Trees
mod Emitted
mod Putting
mod Steps
mod Rooms
mod Labelling
pub mod Refusing
mod Sound
mod Labelled
mod Typed
mod Spaces
mod Fitting
mod Conditionals
mod Loops
mod Compiling
mod Ranged
mod Formed
mod Cycles
mod Uncosted
mod VectorsOfCosts
mod Words
