pub mod Standings
pub mod ScriptLines
pub mod Rows
pub mod ScriptsText
