mod Asking
mod Commands
mod EntryTexts
mod Getters
pub mod Answering
