pub mod Replays
pub mod Audits
pub mod Due
pub mod Report
