pub mod Accepted
pub mod Attempted
pub mod Kept
pub mod Made
pub mod InterruptLemmas
pub mod Refusals
