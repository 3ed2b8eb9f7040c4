pub mod Explains
pub mod Orders
