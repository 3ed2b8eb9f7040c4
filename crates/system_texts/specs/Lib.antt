pub mod Texts
pub mod View
