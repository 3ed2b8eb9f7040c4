pub mod Following
pub mod Fits
pub mod LineSteps
pub mod Ends
pub mod Appended
