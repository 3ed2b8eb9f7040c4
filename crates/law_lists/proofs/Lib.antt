pub mod Bools
pub mod Lists
pub mod Tests
pub mod Counts
pub mod Options
