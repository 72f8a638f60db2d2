mod Beside
pub mod Denoted
pub mod Denoting
mod FoundBlocks
pub mod Lined
mod Listing
pub mod Moments
mod Naming
pub mod Printed
pub mod PrintedWaits
mod ReadingBlocks
pub mod ReadingDefinitions
pub mod ReadingHeaders
pub mod ReadingItems
mod ReadingOn
pub mod ReadingScripts
pub mod ReadingWaits
pub mod Readings
mod Vectors
pub mod Words
