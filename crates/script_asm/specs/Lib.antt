pub mod Words
pub mod Lines
pub mod Labels
pub mod Device
pub mod Views
pub mod Made
pub mod Operands
