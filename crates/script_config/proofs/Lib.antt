pub mod Counting
pub mod Transforming
pub mod Lookups
pub mod Loops
pub mod PacketSteps
pub mod ServiceTurns
pub mod SubTurns
pub mod Walks
pub mod FewEdits
mod HearingAgain
mod ItemByItem
mod Members
pub mod MorePages
mod Named
mod OpeningFaults
pub mod Pacing
mod PlainScripts
mod Scriptable
mod VectorsOfPlans
mod VectorsOfStreams
mod Words
