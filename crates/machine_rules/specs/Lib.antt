pub mod Vectors
pub mod Signals
