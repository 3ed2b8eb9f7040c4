pub mod Seen
pub mod Directories
pub mod Layouts
pub mod Overlaps
pub mod Placements
pub mod Sizes
