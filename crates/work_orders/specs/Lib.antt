pub mod Work
pub mod View
