pub mod Pool
pub mod Cells
pub mod Lends
