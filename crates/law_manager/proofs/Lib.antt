mod Lost
mod Midway
mod TablesMidway
pub mod After
pub mod Naming
