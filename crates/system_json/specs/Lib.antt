pub mod Gathering
pub mod Refused
