mod Bits
mod Owned
mod Signals
mod OwnSteps
mod Delivery
mod Recent
mod Services
pub mod Answered
mod Changes
mod Tables
mod Messages
mod Fits
mod Own
mod Lines
mod Kept
mod Ranges
mod Copies
mod Once
mod Lengths
pub mod Events
