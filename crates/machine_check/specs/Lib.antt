pub mod Performed
pub mod Reaching
pub mod Answers
pub mod Checking
pub mod Auditing
pub mod Written
pub mod Audited
pub mod Worked
