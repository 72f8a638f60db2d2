mod Buffers
mod CommandLexemes
mod FaultLaws
mod FaultVectors
mod FaultyItems
mod ItemTexts
pub mod JoinedTexts
mod Listed
mod ListingVectors
mod NoTexts
mod OneByOne
pub mod Requests
mod Sessions
mod StepLexemes
mod Steps
mod TextEnds
mod VectorsOfSessions
mod WrongCommands
mod WrongItems
mod WrongSteps
mod Words
