pub mod Numbers
pub mod LineLemmas
pub mod Indices
