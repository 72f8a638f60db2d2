pub mod Announcements
pub mod Commands
pub mod Flagged
