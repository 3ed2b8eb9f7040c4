pub mod Runs
pub mod Makes
pub mod Due
pub mod Answers
pub mod Report
pub mod Asked
pub mod Threads
