pub mod Orders
pub mod Stores
pub mod Pigeons
pub mod Updates
pub mod Lent
