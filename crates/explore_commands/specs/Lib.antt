pub mod Targets
pub mod Texts
pub mod Rescheduling
pub mod Findings
pub mod Answers
