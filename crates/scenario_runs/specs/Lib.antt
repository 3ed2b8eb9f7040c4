pub mod Policy
pub mod Restarting
pub mod Runs
pub mod Threads
