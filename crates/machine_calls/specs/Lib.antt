pub mod Machine
pub mod Leaving
pub mod Signals
