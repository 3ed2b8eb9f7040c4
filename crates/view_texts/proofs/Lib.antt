pub mod Actors
pub mod Messages
pub mod Moves
pub mod Appended
pub mod Followed
pub mod Ranges
pub mod Tallied
pub mod Waited
