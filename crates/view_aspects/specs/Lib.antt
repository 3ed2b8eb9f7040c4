pub mod Traces
pub mod Diagrams
pub mod Views
pub mod Written
