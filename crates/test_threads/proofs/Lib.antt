pub mod Closures
pub mod Threes
pub mod Workers
