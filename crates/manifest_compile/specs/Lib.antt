pub mod Budgets
pub mod Keeps
pub mod Names
pub mod Owners
pub mod Pairs
pub mod Sizes
