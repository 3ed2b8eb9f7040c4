pub mod Answered
pub mod FilesDue
