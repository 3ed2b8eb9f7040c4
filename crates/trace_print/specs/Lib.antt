pub mod Buffer
pub mod Fields
pub mod Numbers
pub mod Reading
pub mod View
pub mod Lines
pub mod Answers
pub mod RunLines
