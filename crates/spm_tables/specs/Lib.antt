pub mod Answers
pub mod TablesView
pub mod Queues
pub mod Slots
pub mod Words
