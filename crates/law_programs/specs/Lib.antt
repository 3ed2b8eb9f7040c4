pub mod Owners
pub mod Windows
