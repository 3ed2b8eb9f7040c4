pub mod Columns
pub mod Names
pub mod Outcomes
pub mod Calls
pub mod Counted
pub mod CountsText
pub mod Moves
pub mod Waited
