pub mod Agreeing
pub mod Rows
pub mod Cuts
pub mod Greedily
pub mod PartCount
pub mod Tables
pub mod Seeing
pub mod Keys
pub mod Members
pub mod Notice
pub mod Knowing
pub mod Ensembles
pub mod Beginning
pub mod Saying
pub mod Sending
pub mod Agreement
mod NotedOnce
pub mod Chain
pub mod Steps
pub mod Mentioned
pub mod Parting
pub mod Loops
pub mod FrameEnd
pub mod Framing
pub mod Fronts
pub mod Followed
pub mod Waiting
pub mod FrameSeen
mod Vectors
mod VectorsOfMentions
mod Words
