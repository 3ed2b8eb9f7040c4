pub mod CallTexts
pub mod Legal
pub mod Naming
