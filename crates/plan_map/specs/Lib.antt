pub mod Leads
pub mod Rows
pub mod Committed
pub mod Cells
pub mod Layout
