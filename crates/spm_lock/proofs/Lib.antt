pub mod Crossing
pub mod Entries
pub mod Done
pub mod Totals
pub mod Rights
pub mod Moves
pub mod Turns
pub mod Passes
