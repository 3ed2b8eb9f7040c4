pub mod Arrows
pub mod Diagrams
pub mod Gathering
pub mod Pairs
pub mod Ends
