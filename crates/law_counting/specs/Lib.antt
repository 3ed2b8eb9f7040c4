pub mod Objects
pub mod Pairs
pub mod Pending
pub mod Takes
pub mod Worked
pub mod Rooms
pub mod Runs
pub mod Fresh
