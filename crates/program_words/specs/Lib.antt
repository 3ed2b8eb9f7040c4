pub mod Arguments
pub mod Answers
pub mod Entries
pub mod ViewLine
pub mod View
pub mod ExploreLine
pub mod Explore
