pub mod Lists
pub mod WayLemmas
pub mod SpreadLemmas
pub mod SearchLemmas
pub mod NextLemmas
pub mod FirstLemmas
pub mod RotationLemmas
