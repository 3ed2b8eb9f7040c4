pub mod Blocks
pub mod LaneRanges
mod Zips
pub mod Stored
pub mod Opened
pub mod Systems
pub mod Tested
pub mod Copied
pub mod Numbers
pub mod Words
pub mod Indexed
pub mod Located
pub mod Changed
pub mod Compared
pub mod Outside
pub mod Vectors
pub mod Messages
