pub mod Kept
pub mod KeptSeen
pub mod Lines
pub mod Places
