pub mod Makes
pub mod Reports
pub mod RunTexts
pub mod Answering
