mod Answered
mod Everywhere
mod Freed
mod Gathered
mod Issues
mod Once
mod Owners
mod Pairs
mod Panics
mod Places
mod Replies
mod Waiting
pub mod LaneSteps
