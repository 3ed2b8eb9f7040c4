pub mod Manager
pub mod Performed
pub mod Views
