pub mod Handles
pub mod Table
