pub mod Plain
pub mod SingleText
pub mod Legal
pub mod Replayed
pub mod Admitted
