mod Words
pub mod Bursts
mod LastLevels
pub mod Joined
pub mod Reached
pub mod Samples
mod Vectors
mod VectorsOfAlternatives
pub mod Lookups
pub mod Knowledge
pub mod Passing
pub mod Steps
pub mod Instructions
pub mod Between
pub mod TypedRuns
pub mod Carries
pub mod Tracked
pub mod Facts
pub mod Right
pub mod Notice
pub mod Announcing
pub mod Counted
pub mod Periods
pub mod Headline
pub mod Clock
pub mod Swaps
pub mod Uncommitted
pub mod Waits
pub mod LastSent
pub mod Parts
pub mod Pictures
pub mod Hearing
pub mod Tuned
pub mod Contents
pub mod Knowing
pub mod HeardFrame
pub mod HeardFrames
pub mod CurrentKnown
pub mod NewKnown
pub mod VectorsOfRuns
mod VectorsOfBytes
mod VectorsOfPromises
mod VectorsOfLaws
mod VectorsOfHearing
mod VectorsOfListening
