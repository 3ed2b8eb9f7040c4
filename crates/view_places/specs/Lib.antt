pub mod AskText
pub mod Asking
pub mod Conditions
pub mod Showing
pub mod StateText
pub mod Waits
pub mod Why
pub mod WhyText
