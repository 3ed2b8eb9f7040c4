pub mod Threes
pub mod Workers
