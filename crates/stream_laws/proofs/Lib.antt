pub mod Clean
pub mod Kept
pub mod Pictures
pub mod Rows
pub mod Tracking
pub mod Formed
pub mod Bytes
pub mod Swapping
pub mod Shown
pub mod Announced
pub mod OwnUnits
pub mod Held
pub mod Framing
pub mod Findings
pub mod InPlace
pub mod Sending
pub mod Units
pub mod Agreeing
pub mod AgreeingRuns
pub mod Opening
pub mod AgreeingFrames
pub mod Named
pub mod NoticeFrames
pub mod Following
pub mod LastHeard
pub mod Turning
pub mod Ages
pub mod Staying
pub mod Settling
pub mod NextRows
pub mod NoFault
pub mod Counting
pub mod RunningOn
pub mod Delivered
pub mod Merging
mod Vectors
mod VectorsOfLaws
mod Words
