pub mod Circles
pub mod Ways
pub mod Examples
