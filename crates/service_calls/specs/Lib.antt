pub mod Answers
pub mod Connections
